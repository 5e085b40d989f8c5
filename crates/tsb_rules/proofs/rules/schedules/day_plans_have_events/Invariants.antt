use Rattle.std.proofs.Common.{◌≡◌, ◌-◌}
use Rattle.std.specs.List.{list_all}
use Rattle.tsb_types.specs.Lists.{run_from}
use Rattle.tsb_rules.specs.ScheduleRules.{runs_events}
use Rattle.tsb_plan.specs.PlanOf.{plan_of}
use Rattle.tsb_rules.proofs.rules.schedules.day_plans_have_events.Given as goal

-- what is left passes just where all do
abbrev pub invariant-loop-entry : goal.invariant-loop-entry
invariant-loop-entry l = record {
  whole : list_all (runs_events (plan_of l.plan)) (run_from l.entry (33 - l.entry)) ≡ list_all (runs_events (plan_of l.plan)) (run_from 1 32);
}
