use Rattle.std.proofs.Common.{◌≡◌, ℕ, List, length, ◌∙◌, sym}
use Rattle.tsb_cells.specs.Diff.{diff, apply_diff}
use Rattle.tsb_cells.proofs.DiffLemmas.{apply_diff-diff}
use Rattle.tsb_cells.proofs.reversible.abandon.Goals as goal

pub undo-requires : goal.undo-requires
undo-requires g c =
    let kept : List ℕ = g.R.Reversible.kept c.args.layer.now in
    let cells : List ℕ = g.R.Reversible.cells c.args.layer.now in
    let kept_full : length kept ≡ g.row.N = g.met.R.Reversible.length_kept c.args.layer.now in
    let cells_full : length cells ≡ g.row.N = g.met.R.Reversible.length_cells c.args.layer.now in
    let back : apply_diff cells (diff kept cells) ≡ kept = apply_diff-diff kept cells (kept_full ∙ sym cells_full) in
    record {
      closed = c.close-changes.ensures.closed;
      in_range = rw c.as_slice.ensures.value c.close-changes.ensures.in_range;
      allowed = rw (c.as_slice.ensures.value, c.close-changes.ensures.cells, c.close-changes.ensures.changes, back) (g.met.R.Reversible.kept_allowed c.args.layer.now);
    }

pub returns-clause-cells : goal.returns-clause-cells
returns-clause-cells g c =
    let kept : List ℕ = g.R.Reversible.kept c.args.layer.now in
    let cells : List ℕ = g.R.Reversible.cells c.args.layer.now in
    let kept_full : length kept ≡ g.row.N = g.met.R.Reversible.length_kept c.args.layer.now in
    let cells_full : length cells ≡ g.row.N = g.met.R.Reversible.length_cells c.args.layer.now in
    let back : apply_diff cells (diff kept cells) ≡ kept = apply_diff-diff kept cells (kept_full ∙ sym cells_full) in
    rw (c.undo.ensures.cells, c.as_slice.ensures.value, c.close-changes.ensures.cells, c.close-changes.ensures.changes, back)
