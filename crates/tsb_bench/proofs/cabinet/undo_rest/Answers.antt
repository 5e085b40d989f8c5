use Rattle.std.proofs.Common.{◌∙◌, List, ℕ, sym, ap}
use Rattle.tsb_cells.specs.Bank as bank
use Rattle.tsb_cells.specs.Diff.{apply_diff, part}
use Rattle.tsb_step.specs.declared.TheConstants.{MONITOR_CELLS}
use Rattle.tsb_step.specs.declared.first_cell.TheConstants.{MONITOR}
use Rattle.tsb_controller.specs.Layer as layers
use Rattle.tsb_controller.specs.Records as records
use Rattle.tsb_bench.proofs.PartLemmas.{put-below, set-below}
use Rattle.tsb_bench.proofs.cabinet.undo_rest.Goals as goal

-- an entry of plan or desk leaves the layers and the monitor
pub loop-cell-preserved-then-cell-lt-DETECTORS : goal.loop-cell-preserved-then-cell-lt-DETECTORS
loop-cell-preserved-then-cell-lt-DETECTORS c =
    let e : ℕ × ℕ = (c.in-Some.cell, c.in-Some.old) in
    let rows = layers.rows_of c.loop-cell.controller in
    let cells : List ℕ = bank.cells_of c.loop-cell.monitor in
    record {
      layers = sym (put-below rows e c.next.new.self c.if-cell-lt-DETECTORS.true) ∙ ap (records.put_back rows) (sym c.in-Some.ensures.steps) ∙ c.loop-cell.invariant.layers;
      monitor = sym (set-below e c.next.new.self cells c.if-cell-lt-DETECTORS.true)
          ∙ ap (λ (es : List (ℕ × ℕ)). apply_diff cells (part MONITOR MONITOR_CELLS es)) (sym c.in-Some.ensures.steps) ∙ c.loop-cell.invariant.monitor;
      closed = c.loop-cell.invariant.closed;
      shut = c.loop-cell.invariant.shut;
    }
