use Rattle.std.proofs.Common.{◌≡◌, ◌+◌, ◌-◌, ◌≤◌, sum_by}
use Rattle.tsb_types.specs.Lists.{run_from}
use Rattle.tsb_plan.specs.Schedule.{names_weekday}
use Rattle.tsb_plan.specs.Holding.{one_if}
use Rattle.tsb_plan.specs.PlanOf.{plan_of}
use Rattle.tsb_plan.proofs.plan.Plan.weekdays_in.Given as goal

-- what is summed and what is left make the whole
abbrev pub invariant-loop-weekday : goal.invariant-loop-weekday
invariant-loop-weekday l = record {
  whole : l.sum + sum_by (λ w. one_if (names_weekday (plan_of l.self) l.entry w)) (run_from l.weekday (8 - l.weekday)) ≡ sum_by (λ w. one_if (names_weekday (plan_of l.self) l.entry w)) (run_from 1 7);
  range : l.sum ≤ l.weekday - 1;
}
