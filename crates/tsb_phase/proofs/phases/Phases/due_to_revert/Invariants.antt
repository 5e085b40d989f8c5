use Rattle.std.proofs.Common.{ℕ, ◌<◌, ◌≤◌}
use Rattle.tsb_objects.specs.tsb_plan.PlanOf.{plan_of}
use Rattle.tsb_phase.specs.Due.{StaysReverted}
use Rattle.tsb_phase.specs.Layer.{cells_of}
use Rattle.tsb_phase.proofs.phases.Phases.due_to_revert.Given as goal

abbrev pub invariant-loop-number : goal.invariant-loop-number
invariant-loop-number l = record {
  from : 1 ≤ l.number;
  told : (t p : ℕ) → t < l.due → 1 ≤ p → p < l.number → StaysReverted (plan_of l.plan) (cells_of l.self) l.now t p;
}
