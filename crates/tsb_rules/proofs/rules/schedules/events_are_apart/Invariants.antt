use Rattle.std.proofs.Common.{◌≡◌, ◌-◌}
use Rattle.std.specs.List.{list_all}
use Rattle.tsb_types.specs.Lists.{run_from}
use Rattle.tsb_rules.specs.ScheduleRules.{are_apart}
use Rattle.tsb_plan.specs.PlanOf.{plan_of}
use Rattle.tsb_rules.proofs.rules.schedules.events_are_apart.Given as goal

-- what is left passes just where all do
abbrev pub invariant-loop-day_plan : goal.invariant-loop-day_plan
invariant-loop-day_plan l = record {
  whole : list_all (are_apart (plan_of l.plan)) (run_from l.day_plan (17 - l.day_plan)) ≡ list_all (are_apart (plan_of l.plan)) (run_from 1 16);
}
