use Rattle.std.proofs.Common.{◌≡◌, ◌∙◌, ℕ, List, [], ap, arith, subst}
use Rattle.tsb_cells.specs.Bank as bank
use Rattle.tsb_cells.specs.Diff.{apply_diff, part}
use Rattle.tsb_plan.specs.declared.object.TheConstants.{PLAN_CELLS}
use Rattle.tsb_transact.specs.Layer.{cells_of}
use Rattle.tsb_transact.specs.declared.TheConstants.{CELLS as DESK_CELLS}
use Rattle.tsb_step.specs.declared.TheConstants.{MONITOR_CELLS}
use Rattle.tsb_step.specs.declared.first_cell.TheConstants.{DESK, DETECTORS, MONITOR}
use Rattle.tsb_controller.specs.Layer as layers
use Rattle.tsb_controller.specs.Records as records
use Rattle.tsb_bench.proofs.PartLemmas.{put_nothing, set_nothing, stays-inside}
use Rattle.tsb_bench.proofs.cabinet.Cabinet.undo.Goals as goal

pub returns-then-undo_layers-clause-rows : goal.returns-then-undo_layers-clause-rows
returns-then-undo_layers-clause-rows c =
    let all = c.undo_layers.ensures.all c.if-undo_layers.true in
    let none : part 0 DETECTORS c.args.change.entries ≡ [] =
    subst (λ (es : List (ℕ × ℕ)). part 0 DETECTORS es ≡ []) c.entries-left.ensures (c.undo_layers.ensures.others c.if-undo_layers.true) in
    λ i. record {
      plan = stays-inside DETECTORS 0 PLAN_CELLS c.args.change.entries c.args.self.now.plan.plan.values (omega arith) none i;
      desk = stays-inside DETECTORS DESK DESK_CELLS c.args.change.entries (cells_of c.args.self.now.desk) (omega arith) none i;
      layers = (put_nothing _ _ _ all c.undo_layers.ensures.layers ∙ ap (records.put_back (layers.rows_of c.args.self.now.controller)) c.entries-left.ensures) i;
      monitor = (set_nothing MONITOR MONITOR_CELLS _ _ _ all c.undo_layers.ensures.monitor
          ∙ ap (λ (es : List (ℕ × ℕ)). apply_diff (bank.cells_of c.args.self.now.monitor.bank) (part MONITOR MONITOR_CELLS es)) c.entries-left.ensures) i;
    }
