use Rattle.std.proofs.Common.{◌≡◌, ◌-◌, ◌≤◌, None}
use Rattle.std.specs.Prelude.{IfSome}
use Rattle.tsb_types.specs.Lists.{run_from}
use Rattle.tsb_plan.specs.Holding.{best}
use Rattle.tsb_plan.specs.PlanOf.{plan_of}
use Rattle.tsb_plan.proofs.plan.Plan.holding.Given as goal

-- the best of what was found and of what is left is the best of all
abbrev pub invariant-loop-entry : goal.invariant-loop-entry
invariant-loop-entry l = record {
  whole : best (plan_of l.self) l.day l.found (run_from l.entry (33 - l.entry)) ≡ best (plan_of l.self) l.day None (run_from 1 32);
  from : IfSome l.found (λ e. 1 ≤ e);
  to : IfSome l.found (λ e. e ≤ 32);
}
