use Rattle.std.proofs.Common.{◌≡◌, ◌+◌, ◌-◌, ◌*◌, ◌≤◌, sum_by}
use Rattle.tsb_types.specs.Lists.{run_from}
use Rattle.tsb_plan.specs.Holding.{dates_of_month}
use Rattle.tsb_plan.specs.PlanOf.{plan_of}
use Rattle.tsb_plan.proofs.plan.Plan.dates_of.Given as goal

-- what is summed and what is left make the whole
abbrev pub invariant-loop-month : goal.invariant-loop-month
invariant-loop-month l = record {
  whole : l.sum + sum_by (dates_of_month (plan_of l.self) l.entry) (run_from l.month (13 - l.month)) ≡ sum_by (dates_of_month (plan_of l.self) l.entry) (run_from 1 12);
  range : l.sum ≤ 31 * (l.month - 1);
}
