use Rattle.std.proofs.Common.{◌≡◌, ◌-◌}
use Rattle.tsb_plan.specs.Acting.{action_before}
use Rattle.tsb_plan.specs.PlanOf.{plan_of}
use Rattle.tsb_plan.proofs.plan.Plan.action_before.Given as goal

-- the days that are left have the action that all have
abbrev pub invariant-loop-n : goal.invariant-loop-n
invariant-loop-n l = record {
  whole : action_before (plan_of l.self) (365 - l.n) (l.day - l.n) ≡ action_before (plan_of l.self) 365 l.day;
}
