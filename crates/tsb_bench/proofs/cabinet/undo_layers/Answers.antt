use Rattle.std.proofs.Common.{◌∙◌, ◌≡◌, ◌+◌, ◌<◌, ◌≤◌, ◌&&◌, List, ℕ, ◌∷◌, nat_le, nat_lt, true, sym, ap, arith}
use Rattle.std.proofs.lemmas.Bool.Decides.{nat_tests}
use Rattle.tsb_cells.specs.Bank as bank
use Rattle.tsb_cells.specs.declared.bank.Bank.{Bank}
use Rattle.tsb_cells.specs.Diff.{apply_diff, part}
use Rattle.tsb_step.specs.declared.TheConstants.{MONITOR_CELLS}
use Rattle.tsb_step.specs.declared.first_cell.TheConstants.{DETECTORS, MONITOR}
use Rattle.tsb_controller.specs.Layer as layers
use Rattle.tsb_controller.specs.Records as records
use Rattle.tsb_bench.proofs.PartLemmas.{none-before, put-next, set-before, set-next}
use Rattle.tsb_bench.proofs.cabinet.undo_layers.Goals as goal
use Rattle.tsb_bench.proofs.cabinet.undo_layers.Goals.{else-not-undo_entry-via-then-not-undo_entry+else-not-undo_entry-2, else-not-undo_entry-via-else-not-undo_entry}

-- an entry that a layer takes, and one that the monitor takes
of-layers : (e : ℕ × ℕ) → (nat_le DETECTORS e.0 && nat_lt e.0 MONITOR) ≡ true → (DETECTORS ≤ e.0) × (e.0 < MONITOR)
of-layers e taken = (grind (arith, nat_tests, taken), grind (arith, nat_tests, taken))

behind-desk : (e : ℕ × ℕ) → (nat_le MONITOR e.0 && nat_lt e.0 (MONITOR + MONITOR_CELLS)) ≡ true → DETECTORS ≤ e.0
behind-desk e taken = grind (arith, nat_tests, taken)

pub loop-cell-preserved : goal.loop-cell-preserved
loop-cell-preserved c =
    let e : ℕ × ℕ = (c.in-Some.cell, c.in-Some.old) in
    let es : List (ℕ × ℕ) = c.next.new.self in
    let rows = layers.rows_of c.loop-cell.controller in
    let cells : List ℕ = bank.cells_of c.loop-cell.monitor in
    let left : apply_diff cells (part MONITOR MONITOR_CELLS (e ∷ es)) ≡ apply_diff (bank.cells_of c.args.monitor.now) (part MONITOR MONITOR_CELLS c.args.entries.now) =
    ap (λ (fs : List (ℕ × ℕ)). apply_diff cells (part MONITOR MONITOR_CELLS fs)) (sym c.in-Some.ensures.steps) ∙ c.loop-cell.invariant.monitor in
    let high : DETECTORS ≤ e.0 = elim c.else-not-undo_entry.branch [
      | else-not-undo_entry-via-then-not-undo_entry+else-not-undo_entry-2 w ↦ behind-desk e (sym w.undo_entry-then-not-undo_entry.ensures.is ∙ w.if-not-undo_entry-2.false)
      | else-not-undo_entry-via-else-not-undo_entry w ↦ (of-layers e (sym c.undo_entry.ensures.is ∙ w.if-not-undo_entry.false)).0
    ] in
    record {
      others = sym (none-before e es high) ∙ ap (part 0 DETECTORS) (sym c.in-Some.ensures.steps) ∙ c.loop-cell.invariant.others;
      layers = ap (λ r. records.put_back r es) c.undo_entry.ensures.rows ∙ put-next rows e es
          ∙ ap (records.put_back rows) (sym c.in-Some.ensures.steps) ∙ c.loop-cell.invariant.layers;
      monitor = elim c.else-not-undo_entry.branch [
        | else-not-undo_entry-via-then-not-undo_entry+else-not-undo_entry-2 w ↦
            ap (λ (b : Bank MONITOR_CELLS). apply_diff (bank.cells_of b) (part MONITOR MONITOR_CELLS es)) w.monitor-is
            ∙ ap (λ (cs : List ℕ). apply_diff cs (part MONITOR MONITOR_CELLS es)) w.undo_entry-then-not-undo_entry.ensures.cells ∙ set-next e es cells ∙ left
        | else-not-undo_entry-via-else-not-undo_entry w ↦
            ap (λ (b : Bank MONITOR_CELLS). apply_diff (bank.cells_of b) (part MONITOR MONITOR_CELLS es)) w.monitor-is
            ∙ sym (set-before e es cells (of-layers e (sym c.undo_entry.ensures.is ∙ w.if-not-undo_entry.false)).1) ∙ left
      ];
      closed = c.undo_entry.ensures.closed;
      shut = elim c.else-not-undo_entry.branch [
        | else-not-undo_entry-via-then-not-undo_entry+else-not-undo_entry-2 w ↦
            ap (λ (b : Bank MONITOR_CELLS). bank.is_open b) w.monitor-is ∙ w.undo_entry-then-not-undo_entry.ensures.closed
        | else-not-undo_entry-via-else-not-undo_entry w ↦ ap (λ (b : Bank MONITOR_CELLS). bank.is_open b) w.monitor-is ∙ c.loop-cell.invariant.shut
      ];
    }
