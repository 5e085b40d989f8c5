use Rattle.std.proofs.Common.{◌-◌, ◌∷◌, [], List, ℕ, sym, arith, ◌∙◌}
use Rattle.tsb_cells.specs.Diff.{apply_diff}
use Rattle.tsb_cells.proofs.DiffLemmas.{length-apply_diff}
use Rattle.tsb_controller.proofs.PartLemmas.{one-within}
use Rattle.tsb_controller.proofs.parts.undo_entry.Goals as goal

pub undo_cell-requires-clause-closed : goal.undo_cell-requires-clause-closed
undo_cell-requires-clause-closed g c = c.requires.closed

pub undo_cell-requires-clause-in_range : goal.undo_cell-requires-clause-in_range
undo_cell-requires-clause-in_range g c = (one-within c.args.offset g.row.N (c.args.cell, c.args.old) (sym c.is_one_of.ensures.value ∙ c.if-not-is_one_of.false)) 0 (0, 0) (omega arith)

pub undo_cell-requires-clause-allowed : goal.undo_cell-requires-clause-allowed
undo_cell-requires-clause-allowed g c =
    let entry : List (ℕ × ℕ) = (c.args.cell - c.args.offset, c.args.old) ∷ [] in
    c.requires.free (apply_diff (g.R.Reversible.cells c.args.row.now) entry)
    (length-apply_diff (g.R.Reversible.cells c.args.row.now) entry ∙ g.met.R.Reversible.length_cells c.args.row.now)
