use Rattle.std.proofs.Common.{ℕ, ◌+◌, ◌<◌, ◌≤◌, slice_index}
use Rattle.tsb_types.specs.declared.limits.TheConstants.{PREEMPTS}
use Rattle.tsb_objects.specs.tsb_plan.PlanOf.{plan_of}
use Rattle.tsb_preempt.specs.Layer.{cells_of}
use Rattle.tsb_preempt.specs.Due.{IsWaiting}
use Rattle.tsb_preempt.proofs.preempts.Preempts.requests_due.Given as goal

-- none of the preempts gone over requests before it is due
abbrev pub invariant-loop-n : goal.invariant-loop-n
invariant-loop-n l = record {
  from : 1 ≤ l.n;
  waits : (now t : ℕ) → ((k : ℕ) → 1 ≤ k → k ≤ PREEMPTS → slice_index (cells_of l.self) (1 + k) ≤ t + 1) → t < l.due →
      (k : ℕ) → 1 ≤ k → k < l.n → IsWaiting now t (plan_of l.plan) (cells_of l.self) l.inputs l.spent l.was k;
}
