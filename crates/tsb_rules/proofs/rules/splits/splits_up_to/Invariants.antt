use Rattle.std.proofs.Common.{◌≡◌, ◌+◌, ◌*◌, ◌≤◌, drop, sum_by}
use Rattle.tsb_types.specs.Lists.{up_to}
use Rattle.tsb_rules.specs.PatternRules.{split_before}
use Rattle.tsb_plan.specs.PlanOf.{plan_of}
use Rattle.tsb_rules.proofs.rules.splits.splits_up_to.Given as goal

-- what is summed and what is left make the whole
abbrev pub invariant-loop-number : goal.invariant-loop-number
invariant-loop-number l = record {
  whole : l.sum + sum_by (split_before (plan_of l.plan) l.split l.side) (up_to l.phase (drop l.number-index l.places)) ≡ sum_by (split_before (plan_of l.plan) l.split l.side) (up_to l.phase l.places);
  range : l.sum ≤ 2550 * l.number-index;
}
