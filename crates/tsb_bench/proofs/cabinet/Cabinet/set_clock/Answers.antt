use Rattle.std.proofs.Common.{◌∙◌, sym, ap, subst, refl}
use Rattle.tsb_objects.specs.Checked.{checked_plan}
use Rattle.tsb_plan.specs.PlanOf.{plan_of}
use Rattle.tsb_step.specs.Cells.{clock_at}
use Rattle.tsb_step.specs.MonitorCells.{trip_in}
use Rattle.tsb_step.specs.Step.{step, with_clock}
use Rattle.tsb_step.specs.declared.inputs.Input.TheVariants as inputs
use Rattle.tsb_controller.specs.Layer as layers
use Rattle.tsb_controller.specs.Rows.{Rows, AreBy, state_of}
use Rattle.tsb_bench.specs.Cabinet.{rows_of}
use Rattle.tsb_bench.proofs.InputLemmas.{beside, layers-done, changes-told}
use Rattle.tsb_bench.proofs.cabinet.Cabinet.set_clock.Goals as goal

opened-by : (c : goal.After-close_onto) → AreBy (clock_at c.args.tick (trip_in (rows_of c.args.self.now).monitor)) (layers.rows_of c.open.new.self)
opened-by c = subst (AreBy (clock_at c.args.tick (trip_in (rows_of c.args.self.now).monitor))) (sym c.open.ensures.rows) c.requires.by.layers

pub returns-clause-done : goal.returns-clause-done
unfolding step checked_plan plan_of
returns-clause-done c =
    layers-done (inputs.Clock c.args.moment) c.args.tick (rows_of c.args.self.now) (layers.rows_of c.close_onto.new.self) c.close_onto.new.out.items refl c.requires.by
    (ap (state_of c.args.tick (beside (rows_of c.args.self.now))) c.close_onto.ensures.rows
    ∙ c.set_clock.ensures.state (beside (rows_of c.args.self.now)) refl
    ∙ ap (λ (r : Rows). with_clock c.args.moment (state_of c.args.tick (beside (rows_of c.args.self.now)) r)) c.open.ensures.rows)
    (subst (AreBy (clock_at c.args.tick (trip_in (rows_of c.args.self.now).monitor))) (sym c.close_onto.ensures.rows)
    (c.set_clock.ensures.by (clock_at c.args.tick (trip_in (rows_of c.args.self.now).monitor)) (opened-by c)))
    (changes-told (rows_of c.args.self.now).layers (layers.kept_of c.set_clock.new.self) (layers.rows_of c.set_clock.new.self) (layers.rows_of c.close_onto.new.self)
    c.args.out.now.items c.close_onto.new.out.items c.requires.empty (c.set_clock.ensures.kept ∙ c.open.ensures.kept) c.close_onto.ensures.rows c.close_onto.ensures.changes)
