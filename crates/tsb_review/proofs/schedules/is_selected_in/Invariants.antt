use Rattle.std.proofs.Common.{◌≡◌, ◌-◌}
use Rattle.std.specs.List.{list_any}
use Rattle.tsb_types.specs.Lists.{run_from}
use Rattle.tsb_plan.specs.PlanOf.{plan_of}
use Rattle.tsb_review.specs.Schedules.{selects}
use Rattle.tsb_review.proofs.schedules.is_selected_in.Given as goal

-- what is found in what is left is what is found in all
abbrev pub invariant-loop-event : goal.invariant-loop-event
invariant-loop-event l = record {
  whole : list_any (selects (plan_of l.plan) l.pattern l.day_plan) (run_from l.event (17 - l.event)) ≡ list_any (selects (plan_of l.plan) l.pattern l.day_plan) (run_from 1 16);
}
