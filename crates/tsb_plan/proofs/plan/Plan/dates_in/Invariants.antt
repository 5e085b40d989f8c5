use Rattle.std.proofs.Common.{◌≡◌, ◌+◌, ◌-◌, ◌≤◌, sum_by}
use Rattle.tsb_types.specs.Lists.{run_from}
use Rattle.tsb_plan.specs.Schedule.{names_date}
use Rattle.tsb_plan.specs.Holding.{one_if}
use Rattle.tsb_plan.specs.PlanOf.{plan_of}
use Rattle.tsb_plan.proofs.plan.Plan.dates_in.Given as goal

-- what is summed and what is left make the whole
abbrev pub invariant-loop-day : goal.invariant-loop-day
invariant-loop-day l = record {
  whole : l.sum + sum_by (λ d. one_if (names_date (plan_of l.self) l.entry d)) (run_from l.day (l.length + 1 - l.day)) ≡ sum_by (λ d. one_if (names_date (plan_of l.self) l.entry d)) (run_from 1 l.length);
  range : l.sum ≤ l.day - 1;
}
