use Rattle.std.proofs.Common.{◌≡◌, ◌-◌}
use Rattle.std.specs.List.{list_any}
use Rattle.tsb_types.specs.Lists.{run_from}
use Rattle.tsb_plan.specs.PlanOf.{plan_of}
use Rattle.tsb_review.specs.Schedules.{selects}
use Rattle.tsb_review.proofs.schedules.is_selected.Given as goal

-- what is found in what is left is what is found in all
abbrev pub invariant-loop-day_plan : goal.invariant-loop-day_plan
invariant-loop-day_plan l = record {
  whole : list_any (λ d. list_any (selects (plan_of l.plan) l.pattern d) (run_from 1 16)) (run_from l.day_plan (17 - l.day_plan)) ≡ list_any (λ d. list_any (selects (plan_of l.plan) l.pattern d) (run_from 1 16)) (run_from 1 16);
}
