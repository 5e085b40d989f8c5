use Rattle.std.proofs.Common.{◌≡◌, ◌+◌, ◌*◌, ◌≤◌, drop, sum_by}
use Rattle.tsb_types.specs.Lists.{run_from}
use Rattle.tsb_rules.specs.PatternRules.{split_on}
use Rattle.tsb_plan.specs.PlanOf.{plan_of}
use Rattle.tsb_breaches.proofs.sums.split_sum.Given as goal

-- what is summed and what is left make the whole
abbrev pub invariant-loop-phase : goal.invariant-loop-phase
invariant-loop-phase l = record {
  whole : l.sum + sum_by (split_on (plan_of l.plan) l.split l.ring l.side) (drop l.phase-index l.phase-items) ≡ sum_by (split_on (plan_of l.plan) l.split l.ring l.side) (run_from 1 16);
  range : l.sum ≤ 2550 * l.phase-index;
}
