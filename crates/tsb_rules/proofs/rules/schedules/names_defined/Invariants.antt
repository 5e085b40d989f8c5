use Rattle.std.proofs.Common.{◌≡◌, ◌==◌, ◌-◌, ◌||◌}
use Rattle.std.specs.List.{list_all}
use Rattle.tsb_types.specs.Lists.{run_from}
use Rattle.tsb_plan.specs.Schedule.{action_of}
use Rattle.tsb_rules.specs.ScheduleRules.{is_defined}
use Rattle.tsb_plan.specs.PlanOf.{plan_of}
use Rattle.tsb_rules.proofs.rules.schedules.names_defined.Given as goal

-- what is left passes just where all do
abbrev pub invariant-loop-event : goal.invariant-loop-event
invariant-loop-event l = record {
  whole : list_all (λ k. action_of (plan_of l.plan) l.day_plan k == 0 || is_defined (plan_of l.plan) (action_of (plan_of l.plan) l.day_plan k)) (run_from l.event (17 - l.event)) ≡ list_all (λ k. action_of (plan_of l.plan) l.day_plan k == 0 || is_defined (plan_of l.plan) (action_of (plan_of l.plan) l.day_plan k)) (run_from 1 16);
}
