use Rattle.std.proofs.Common.{◌≡◌, false, length}
use Rattle.tsb_cells.specs.Bank as bank
use Rattle.tsb_cells.specs.Diff.{apply_diff, part}
use Rattle.tsb_step.specs.declared.TheConstants.{MONITOR_CELLS}
use Rattle.tsb_step.specs.declared.first_cell.TheConstants.{DETECTORS, MONITOR}
use Rattle.tsb_controller.specs.Layer as layers
use Rattle.tsb_controller.specs.Layer.{IsClosed}
use Rattle.tsb_controller.specs.Records as records
use Rattle.tsb_bench.proofs.cabinet.undo_layers.Given as goal

-- what is left to be put back leads to what all of it leads to, and all entries of plan and desk are left
abbrev pub invariant-loop-cell : goal.invariant-loop-cell
invariant-loop-cell l = record {
  others : part 0 DETECTORS l.entries ≡ part 0 DETECTORS l.initial.entries;
  layers : records.put_back (layers.rows_of l.controller) l.entries ≡ records.put_back (layers.rows_of l.initial.controller) l.initial.entries;
  monitor : apply_diff (bank.cells_of l.monitor) (part MONITOR MONITOR_CELLS l.entries) ≡
      apply_diff (bank.cells_of l.initial.monitor) (part MONITOR MONITOR_CELLS l.initial.entries);
  closed : IsClosed l.controller;
  shut : bank.is_open l.monitor ≡ false;
}

abbrev pub decreases-loop-cell : goal.decreases-loop-cell
decreases-loop-cell l = length l.entries
