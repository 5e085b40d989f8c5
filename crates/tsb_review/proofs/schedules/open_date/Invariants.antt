use Rattle.std.proofs.Common.{◌≡◌, ◌+◌, ◌-◌, is_some}
use Rattle.tsb_types.specs.Lists.{first, run_from}
use Rattle.tsb_plan.specs.PlanOf.{plan_of}
use Rattle.tsb_review.specs.Schedules.{open_weekday}
use Rattle.tsb_review.proofs.schedules.open_date.Given as goal

-- what is found in what is left is what is found in all
abbrev pub invariant-loop-day : goal.invariant-loop-day
invariant-loop-day l = record {
  whole : first (λ d. is_some (open_weekday (plan_of l.plan) l.month d)) (run_from l.day (l.length + 1 - l.day)) ≡ first (λ d. is_some (open_weekday (plan_of l.plan) l.month d)) (run_from 1 l.length);
}
