use Rattle.std.proofs.Common.{ℕ, ◌<◌, ◌≤◌, ◌↔◌, IsFalse}
use Rattle.tsb_phase.specs.Cells.{row_in}
use Rattle.tsb_phase.specs.Layer.{cells_of}
use Rattle.tsb_phase.proofs.phases.Phases.has_revert_over.Given as goal

abbrev pub invariant-loop-number : goal.invariant-loop-number
invariant-loop-number l = record {
  from : 1 ≤ l.number;
  told : IsFalse l.is_over ↔ ((p : ℕ) → 1 ≤ p → p < l.number → (row_in (cells_of l.self) p).red_revert ≤ l.last);
}
