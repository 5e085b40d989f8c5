use Rattle.std.proofs.Common.{◌≡◌, ◌-◌}
use Rattle.std.specs.List.{list_all}
use Rattle.tsb_types.specs.Lists.{run_from}
use Rattle.tsb_plan.specs.Schedule.{asked_by}
use Rattle.tsb_rules.specs.ScheduleRules.{asks_well}
use Rattle.tsb_plan.specs.PlanOf.{plan_of}
use Rattle.tsb_rules.proofs.rules.schedules.asked_patterns_are_used.Given as goal

-- what is left passes just where all do
abbrev pub invariant-loop-action : goal.invariant-loop-action
invariant-loop-action l = record {
  whole : list_all (λ a. asks_well (plan_of l.plan) (asked_by (plan_of l.plan) a)) (run_from l.action (33 - l.action)) ≡ list_all (λ a. asks_well (plan_of l.plan) (asked_by (plan_of l.plan) a)) (run_from 1 32);
}
