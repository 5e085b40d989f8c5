use Rattle.std.proofs.Common.{◌≡◌, ◌-◌}
use Rattle.std.specs.List.{list_any}
use Rattle.tsb_types.specs.Lists.{run_from}
use Rattle.tsb_plan.specs.PlanOf.{plan_of}
use Rattle.tsb_review.specs.Schedules.{covers}
use Rattle.tsb_review.proofs.schedules.is_open.Given as goal

-- what is found in what is left is what is found in all
abbrev pub invariant-loop-entry : goal.invariant-loop-entry
invariant-loop-entry l = record {
  whole : list_any (covers (plan_of l.plan) l.month l.day l.weekday) (run_from l.entry (33 - l.entry)) ≡ list_any (covers (plan_of l.plan) l.month l.day l.weekday) (run_from 1 32);
}
