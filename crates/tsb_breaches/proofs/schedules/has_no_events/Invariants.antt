use Rattle.std.proofs.Common.{◌≡◌, ◌==◌, ◌-◌, not}
use Rattle.std.specs.List.{list_any}
use Rattle.tsb_types.specs.Lists.{run_from}
use Rattle.tsb_plan.specs.Schedule.{action_of}
use Rattle.tsb_plan.specs.PlanOf.{plan_of}
use Rattle.tsb_breaches.proofs.schedules.has_no_events.Given as goal

-- one of what is left is used just where one of all is
abbrev pub invariant-loop-event : goal.invariant-loop-event
invariant-loop-event l = record {
  whole : list_any (λ k. not (action_of (plan_of l.plan) l.day_plan k == 0)) (run_from l.event (17 - l.event)) ≡ list_any (λ k. not (action_of (plan_of l.plan) l.day_plan k == 0)) (run_from 1 16);
}
