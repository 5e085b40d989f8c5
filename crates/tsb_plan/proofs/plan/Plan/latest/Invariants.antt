use Rattle.std.proofs.Common.{◌≡◌, ◌-◌, ◌≤◌, None}
use Rattle.std.specs.Prelude.{IfSome}
use Rattle.tsb_types.specs.Lists.{run_from}
use Rattle.tsb_plan.specs.Acting.{latest}
use Rattle.tsb_plan.specs.PlanOf.{plan_of}
use Rattle.tsb_plan.proofs.plan.Plan.latest.Given as goal

-- the latest of what was found and of what is left is the latest of all
abbrev pub invariant-loop-event : goal.invariant-loop-event
invariant-loop-event l = record {
  whole : latest (plan_of l.self) l.day_plan l.minute l.found (run_from l.event (17 - l.event)) ≡ latest (plan_of l.self) l.day_plan l.minute None (run_from 1 16);
  from : IfSome l.found (λ k. 1 ≤ k);
  to : IfSome l.found (λ k. k ≤ 16);
}
