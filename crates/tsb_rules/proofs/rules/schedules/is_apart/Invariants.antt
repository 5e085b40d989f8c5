use Rattle.std.proofs.Common.{◌≡◌, nat_le, ◌==◌, ◌-◌, ◌||◌, not}
use Rattle.std.specs.List.{list_all}
use Rattle.tsb_types.specs.Lists.{run_from}
use Rattle.tsb_plan.specs.Schedule.{action_of, time_of}
use Rattle.tsb_plan.specs.PlanOf.{plan_of}
use Rattle.tsb_rules.proofs.rules.schedules.is_apart.Given as goal

-- what is left passes just where all do
abbrev pub invariant-loop-lower : goal.invariant-loop-lower
invariant-loop-lower l = record {
  whole : list_all (λ j. action_of (plan_of l.plan) l.day_plan j == 0 || (nat_le l.event j || not (time_of (plan_of l.plan) l.day_plan j == time_of (plan_of l.plan) l.day_plan l.event))) (run_from l.lower (17 - l.lower)) ≡ list_all (λ j. action_of (plan_of l.plan) l.day_plan j == 0 || (nat_le l.event j || not (time_of (plan_of l.plan) l.day_plan j == time_of (plan_of l.plan) l.day_plan l.event))) (run_from 1 16);
}
