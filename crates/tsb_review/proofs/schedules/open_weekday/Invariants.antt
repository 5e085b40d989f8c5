use Rattle.std.proofs.Common.{◌≡◌, ◌-◌}
use Rattle.tsb_types.specs.Lists.{first, run_from}
use Rattle.tsb_plan.specs.PlanOf.{plan_of}
use Rattle.tsb_review.specs.Schedules.{is_open}
use Rattle.tsb_review.proofs.schedules.open_weekday.Given as goal

-- what is found in what is left is what is found in all
abbrev pub invariant-loop-weekday : goal.invariant-loop-weekday
invariant-loop-weekday l = record {
  whole : first (is_open (plan_of l.plan) l.month l.day) (run_from l.weekday (8 - l.weekday)) ≡ first (is_open (plan_of l.plan) l.month l.day) (run_from 1 7);
}
