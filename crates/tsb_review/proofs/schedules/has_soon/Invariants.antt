use Rattle.std.proofs.Common.{◌≡◌, ◌-◌}
use Rattle.std.specs.List.{list_any}
use Rattle.tsb_types.specs.Lists.{run_from}
use Rattle.tsb_plan.specs.PlanOf.{plan_of}
use Rattle.tsb_review.specs.Schedules.{comes_soon}
use Rattle.tsb_review.proofs.schedules.has_soon.Given as goal

-- what is found in what is left is what is found in all
abbrev pub invariant-loop-next : goal.invariant-loop-next
invariant-loop-next l = record {
  whole : list_any (comes_soon (plan_of l.plan) l.day_plan l.event) (run_from l.next (17 - l.next)) ≡ list_any (comes_soon (plan_of l.plan) l.day_plan l.event) (run_from 1 16);
}
