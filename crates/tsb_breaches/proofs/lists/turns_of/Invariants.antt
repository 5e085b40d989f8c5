use Rattle.std.proofs.Common.{◌≡◌, ◌+◌, ◌≤◌, drop, sum_by, if◌then◌else◌}
use Rattle.tsb_types.specs.Lists.{run_from}
use Rattle.tsb_plan.specs.Parts.{is_modifier}
use Rattle.tsb_plan.specs.PlanOf.{plan_of}
use Rattle.tsb_breaches.proofs.lists.turns_of.Given as goal

-- what is counted and what is left make the whole
abbrev pub invariant-loop-phase : goal.invariant-loop-phase
invariant-loop-phase l = record {
  whole : l.count + sum_by (λ p. if is_modifier (plan_of l.plan) l.fn.overlap p then 1 else 0) (drop l.phase-index l.phase-items) ≡ sum_by (λ p. if is_modifier (plan_of l.plan) l.fn.overlap p then 1 else 0) (run_from 1 16);
  range : l.count ≤ l.phase-index;
}
