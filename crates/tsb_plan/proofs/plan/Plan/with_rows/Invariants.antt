use Rattle.std.proofs.Common.{◌≡◌, true, drop}
use Rattle.std.specs.List.{list_all}
use Rattle.tsb_plan.specs.PlanOf.{plan_of}
use Rattle.tsb_plan.specs.Quad.{with_rows, row_fits}
use Rattle.tsb_plan.proofs.plan.Plan.with_rows.Given as goal

-- the rows that are left lead to the plan to which all of them lead
abbrev pub invariant-loop-object : goal.invariant-loop-object
invariant-loop-object l = record {
  same : with_rows (plan_of l.plan) (drop l.object-index l.rows) ≡ with_rows (plan_of l.fn.self) l.rows;
  fit : list_all row_fits (drop l.object-index l.rows) ≡ true;
}
