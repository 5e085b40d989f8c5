use Rattle.std.proofs.Common.{◌≡◌, ◌+◌, true, drop}
use Rattle.std.specs.List.{list_all}
use Rattle.tsb_plan.specs.Plan.{with_values}
use Rattle.tsb_plan.specs.PlanOf.{plan_of}
use Rattle.tsb_plan.specs.Quad.{row}
use Rattle.tsb_plan.specs.Two.{fits}
use Rattle.tsb_plan.proofs.plan.Plan.with_row.Given as goal

-- the values that are left lead to the plan to which all of them lead
abbrev pub invariant-loop-place : goal.invariant-loop-place
invariant-loop-place l = record {
  same : with_values (plan_of l.plan) (row l.object (l.place + 1) (drop l.place l.values)) ≡ with_values (plan_of l.fn.self) (row l.object 1 l.values);
  fit : list_all fits (row l.object (l.place + 1) (drop l.place l.values)) ≡ true;
}
