use Rattle.std.proofs.Common.{◌≡◌, ℕ, ◌<◌, ◌≤◌}
use Rattle.tsb_plan.specs.PlanOf.{plan_of}
use Rattle.tsb_status_text.proofs.plan.is_all_zeros.Given as goal

-- the object is 0 at each index so far
abbrev pub invariant-loop-index : goal.invariant-loop-index
invariant-loop-index l = (k : ℕ) → 1 ≤ k → k < l.index → (plan_of l.plan).value l.object k ≡ 0
