use Rattle.std.proofs.Common.{◌≡◌, ◌-◌, is_some}
use Rattle.tsb_types.specs.Lists.{first, run_from}
use Rattle.tsb_plan.specs.PlanOf.{plan_of}
use Rattle.tsb_review.specs.Schedules.{open_date}
use Rattle.tsb_review.proofs.schedules.open_month.Given as goal

-- what is found in what is left is what is found in all
abbrev pub invariant-loop-month : goal.invariant-loop-month
invariant-loop-month l = record {
  whole : first (λ m. is_some (open_date (plan_of l.plan) m)) (run_from l.month (13 - l.month)) ≡ first (λ m. is_some (open_date (plan_of l.plan) m)) (run_from 1 12);
}
