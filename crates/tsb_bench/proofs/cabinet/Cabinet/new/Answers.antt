use Rattle.std.proofs.Common.{◌∙◌, ap, ap₂, sym, subst, None, Option}
use Rattle.tsb_cells.specs.Bank as bank
use Rattle.tsb_objects.specs.Checked.{checked_plan}
use Rattle.tsb_plan.specs.PlanOf.{plan_of, plan_in}
use Rattle.tsb_types.specs.declared.lamp.Lamp.{Lamp}
use Rattle.tsb_transact.specs.Desk.{Desk, closed}
use Rattle.tsb_step.specs.Cells.{clock_at}
use Rattle.tsb_step.specs.MonitorCells.{lamp_in, trip_in}
use Rattle.tsb_step.specs.State.{Tripped}
use Rattle.tsb_controller.specs.Layer as layers
use Rattle.tsb_controller.specs.Rows.{AreBy, state_of}
use Rattle.tsb_bench.proofs.MonitorCellLemmas.{Says, cleared}
use Rattle.tsb_bench.proofs.cabinet.Cabinet.new.Goals as goal

says : (c : goal.After-none) → Says 0 None None (bank.cells_of c.new-3.result.bank)
says c = cleared 0 (bank.cells_of c.new-3.result.bank) c.new-3.ensures.cells

pub returns-clause-state : goal.returns-clause-state
unfolding checked_plan plan_of
returns-clause-state c =
    ap (λ (d : Desk). state_of 0 (record { plan = plan_in c.args.plan.plan.values; desk = d; lamp = lamp_in (bank.cells_of c.new-3.result.bank); trip = trip_in (bank.cells_of c.new-3.result.bank) }) (layers.rows_of c.new-2.result))
    c.in-Ok.ensures.each
    ∙ ap₂ (λ (l : Option Lamp) (t : Option Tripped). state_of 0 (record { plan = plan_in c.args.plan.plan.values; desk = closed; lamp = l; trip = t }) (layers.rows_of c.new-2.result)) (says c).lamp_is (says c).trip_is
    ∙ c.new-2.ensures.state (plan_in c.args.plan.plan.values)

pub returns-clause-by : goal.returns-clause-by
returns-clause-by c = record {
  plan = c.args.plan.plan.full;
  desk = c.in-Ok.desk.row.by;
  layers = subst (λ (t : Option Tripped). AreBy (clock_at 0 t) (layers.rows_of c.new-2.result)) (sym (says c).trip_is) c.new-2.ensures.by;
  monitor = (says c).by;
}
