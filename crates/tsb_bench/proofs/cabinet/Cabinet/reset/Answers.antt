use Rattle.std.proofs.Common.{◌∙◌, List, ℕ, ap, sym, subst, refl, ◌++◌, None}
use Rattle.tsb_cells.specs.Bank as bank
use Rattle.tsb_cells.specs.Diff.{diff, shifted}
use Rattle.tsb_step.specs.State.{restarted}
use Rattle.tsb_step.specs.declared.inputs.Input.TheVariants as inputs
use Rattle.tsb_step.specs.declared.first_cell.TheConstants.{MONITOR}
use Rattle.tsb_controller.specs.Layer as layers
use Rattle.tsb_controller.specs.Rows.{Rows, Beside, AreBy, untripped, state_of}
use Rattle.tsb_bench.specs.Cabinet.{rows_of, IsDone}
use Rattle.tsb_bench.proofs.InputLemmas.{by-now, changes-told, reset-untripped, reset-done}
use Rattle.tsb_bench.proofs.MonitorCellLemmas.{Says, cleared}
use Rattle.tsb_bench.proofs.cabinet.Cabinet.reset.Goals as goal

pub returns-then-not-is_tripped-clause-done : goal.returns-then-not-is_tripped-clause-done
returns-then-not-is_tripped-clause-done c =
    subst (λ (es : List (ℕ × ℕ)). IsDone inputs.Reset c.args.tick (rows_of c.args.self.now) (rows_of c.args.self.now) es) (sym c.requires.empty)
    (reset-untripped c.args.tick (rows_of c.args.self.now) c.requires.by (sym c.is_tripped.ensures ∙ c.if-not-is_tripped.true))

pub reset-requires-clause-by : goal.reset-requires-clause-by
reset-requires-clause-by c = subst (AreBy c.args.tick) (sym c.open.ensures.rows) (by-now c.args.tick (rows_of c.args.self.now) c.requires.by)

says : (c : goal.After-clear) → Says c.args.tick None None (bank.cells_of c.clear.new.self.bank)
says c = cleared c.args.tick (bank.cells_of c.clear.new.self.bank) c.clear.ensures.cells

pub returns-clause-done : goal.returns-clause-done
returns-clause-done c =
    reset-done c.args.tick (rows_of c.args.self.now)
    (record { plan = (rows_of c.args.self.now).plan; desk = (rows_of c.args.self.now).desk; layers = layers.rows_of c.close_onto.new.self; monitor = bank.cells_of c.clear.new.self.bank })
    c.clear.new.out.items c.requires.by (sym c.is_tripped.ensures ∙ c.if-not-is_tripped.false)
    (λ (b : Beside). ap (state_of c.args.tick (untripped b.plan b.desk None)) c.close_onto.ensures.rows ∙ c.reset.ensures.state b ∙ ap (λ (r : Rows). restarted (state_of c.args.tick b r)) c.open.ensures.rows)
    (subst (AreBy c.args.tick) (sym c.close_onto.ensures.rows) c.reset.ensures.by) refl refl (says c).lamp_is (says c).trip_is (says c).by
    (c.clear.ensures.changes ∙ ap (λ (es : List (ℕ × ℕ)). es ++ shifted MONITOR (diff (rows_of c.args.self.now).monitor (bank.cells_of c.clear.new.self.bank)))
    (changes-told (rows_of c.args.self.now).layers (layers.kept_of c.reset.new.self) (layers.rows_of c.reset.new.self) (layers.rows_of c.close_onto.new.self)
    c.args.out.now.items c.close_onto.new.out.items c.requires.empty (c.reset.ensures.kept ∙ c.open.ensures.kept) c.close_onto.ensures.rows c.close_onto.ensures.changes))
