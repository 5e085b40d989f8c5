use Rattle.std.proofs.Common.{◌≡◌, ◌⊎◌, ℕ, ◌<◌, ◌≤◌, ◌==◌, true}
use Rattle.tsb_plan.specs.Plan.{red_revert}
use Rattle.tsb_plan.specs.PlanOf.{plan_of}
use Rattle.tsb_types.specs.Lists.{some_passes, run_from}
use Rattle.tsb_objects.proofs.red_reverts.longest_red_revert.Given as goal

abbrev pub invariant-loop-number : goal.invariant-loop-number
invariant-loop-number l = record {
  from : 1 ≤ l.number;
  told : (p : ℕ) → 1 ≤ p → p < l.number → red_revert (plan_of l.plan) p ≤ l.longest;
  some : (l.longest ≡ 0) ⊎ (some_passes (λ p. red_revert (plan_of l.plan) p == l.longest) (run_from 1 16) ≡ true);
}
