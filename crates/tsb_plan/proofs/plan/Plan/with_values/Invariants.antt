use Rattle.std.proofs.Common.{◌≡◌, true, drop}
use Rattle.std.specs.List.{list_all}
use Rattle.tsb_plan.specs.Plan.{with_values}
use Rattle.tsb_plan.specs.PlanOf.{plan_of}
use Rattle.tsb_plan.specs.Two.{fits}
use Rattle.tsb_plan.proofs.plan.Plan.with_values.Given as goal

-- the values that are left lead to the plan to which all of them lead
abbrev pub invariant-loop-object : goal.invariant-loop-object
invariant-loop-object l = record {
  same : with_values (plan_of l.plan) (drop l.object-index l.values) ≡ with_values (plan_of l.fn.self) l.values;
  fit : list_all fits (drop l.object-index l.values) ≡ true;
}
