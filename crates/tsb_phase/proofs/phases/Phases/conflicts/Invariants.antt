use Rattle.std.proofs.Common.{◌≡◌, ℕ, ◌<◌, ◌≤◌, ◌==◌, not, false}
use Rattle.tsb_objects.specs.tsb_types.Sets.{has}
use Rattle.tsb_phase.specs.Cells.{row_in}
use Rattle.tsb_phase.specs.Layer.{cells_of}
use Rattle.tsb_phase.proofs.phases.Phases.conflicts.Given as goal

abbrev pub invariant-loop-number : goal.invariant-loop-number
invariant-loop-number l = record {
  from : 1 ≤ l.number;
  rest : (p : ℕ) → l.number ≤ p → has l.conflicts p ≡ false;
  told : (p : ℕ) → 1 ≤ p → p < l.number → has l.conflicts p ≡ not ((row_in (cells_of l.self) p).conflict == 0);
}
