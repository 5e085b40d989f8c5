use Rattle.std.proofs.Common.{◌≡◌, ◌==◌, ◌-◌, not}
use Rattle.std.specs.List.{list_any}
use Rattle.tsb_types.specs.Lists.{run_from}
use Rattle.tsb_plan.specs.Schedule.{day_plan_of}
use Rattle.tsb_plan.specs.PlanOf.{plan_of}
use Rattle.tsb_plan.proofs.plan.Plan.has_schedule.Given as goal

-- one of what is left names a day plan just where one of all does
abbrev pub invariant-loop-entry : goal.invariant-loop-entry
invariant-loop-entry l = record {
  whole : list_any (λ e. not (day_plan_of (plan_of l.self) e == 0)) (run_from l.entry (33 - l.entry)) ≡ list_any (λ e. not (day_plan_of (plan_of l.self) e == 0)) (run_from 1 32);
}
