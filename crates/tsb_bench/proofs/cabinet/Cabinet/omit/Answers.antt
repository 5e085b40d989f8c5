use Rattle.std.proofs.Common.{◌∙◌, ◌<◌, Bool, ℕ, sym, ap, subst, refl, arith}
use Rattle.std.proofs.Math.Path.{fun_ext}
use Rattle.tsb_step.specs.Cells.{clock_at}
use Rattle.tsb_step.specs.MonitorCells.{trip_in}
use Rattle.tsb_step.specs.State.{State}
use Rattle.tsb_step.specs.Step.{step, verdict, with_omitted}
use Rattle.tsb_step.specs.declared.inputs.Input.TheVariants as inputs
use Rattle.tsb_controller.specs.Layer as layers
use Rattle.tsb_controller.specs.Rows.{Rows, AreBy, state_of}
use Rattle.tsb_bench.specs.Cabinet.{rows_of}
use Rattle.tsb_bench.proofs.InputLemmas.{beside, layers-done, changes-told, listed}
use Rattle.tsb_bench.proofs.cabinet.Cabinet.omit.Goals as goal

pub overflow_cast-list : goal.overflow_cast-list
unfolding verdict
overflow_cast-list c = let low : c.args.list < 65536 = listed c.args.list c.requires.allowed in omega (arith, low)

opened-by : (c : goal.After-close_onto) → AreBy (clock_at c.args.tick (trip_in (rows_of c.args.self.now).monitor)) (layers.rows_of c.open.new.self)
opened-by c = subst (AreBy (clock_at c.args.tick (trip_in (rows_of c.args.self.now).monitor))) (sym c.open.ensures.rows) c.requires.by.layers

pub returns-clause-done : goal.returns-clause-done
unfolding step
returns-clause-done c =
    layers-done (inputs.Omit c.args.list) c.args.tick (rows_of c.args.self.now) (layers.rows_of c.close_onto.new.self) c.close_onto.new.out.items refl c.requires.by
    (ap (state_of c.args.tick (beside (rows_of c.args.self.now))) c.close_onto.ensures.rows
    ∙ c.omit.ensures.state c.args.tick (beside (rows_of c.args.self.now))
    ∙ ap (λ (f : ℕ → Bool). let s : State = record (state_of c.args.tick (beside (rows_of c.args.self.now)) (layers.rows_of c.open.new.self)) { omitted = f } in s) (fun_ext c.from_list.ensures.named)
    ∙ ap (λ (r : Rows). with_omitted c.args.list (state_of c.args.tick (beside (rows_of c.args.self.now)) r)) c.open.ensures.rows)
    (subst (AreBy (clock_at c.args.tick (trip_in (rows_of c.args.self.now).monitor))) (sym c.close_onto.ensures.rows)
    (c.omit.ensures.by (clock_at c.args.tick (trip_in (rows_of c.args.self.now).monitor)) (opened-by c)))
    (changes-told (rows_of c.args.self.now).layers (layers.kept_of c.omit.new.self) (layers.rows_of c.omit.new.self) (layers.rows_of c.close_onto.new.self)
    c.args.out.now.items c.close_onto.new.out.items c.requires.empty (c.omit.ensures.kept ∙ c.open.ensures.kept) c.close_onto.ensures.rows c.close_onto.ensures.changes)
