use Rattle.std.proofs.Common.{◌≡◌, ◌+◌, ◌-◌, ◌*◌, ◌≤◌, sum_by}
use Rattle.tsb_types.specs.Lists.{run_from}
use Rattle.tsb_rules.specs.PatternRules.{side_sum}
use Rattle.tsb_plan.specs.PlanOf.{plan_of}
use Rattle.tsb_rules.proofs.rules.splits.sides_sum.Given as goal

-- what is summed and what is left make the whole
abbrev pub invariant-loop-side : goal.invariant-loop-side
invariant-loop-side l = record {
  whole : l.sum + sum_by (side_sum (plan_of l.plan) l.split) (run_from l.side (l.last + 1 - l.side)) ≡ sum_by (side_sum (plan_of l.plan) l.split) (run_from 1 l.last);
  range : l.sum ≤ 40800 * (l.side - 1);
}
