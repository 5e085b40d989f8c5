use Rattle.std.proofs.Common.{◌∙◌, List, ℕ, ap, refl}
use Rattle.tsb_objects.specs.Checked.{checked_plan}
use Rattle.tsb_plan.specs.PlanOf.{plan_of}
use Rattle.tsb_transact.specs.Calls as calls
use Rattle.tsb_transact.specs.Cells.{desk_in}
use Rattle.tsb_transact.specs.Layer as desk
use Rattle.tsb_step.specs.Step.{step, verdict}
use Rattle.tsb_step.specs.declared.inputs.Input.TheVariants as inputs
use Rattle.tsb_bench.specs.Cabinet.{rows_of}
use Rattle.tsb_bench.proofs.DeskLemmas.{set-refusals}
use Rattle.tsb_bench.proofs.InputLemmas.{desk-input}
use Rattle.tsb_bench.proofs.cabinet.Cabinet.set.Goals as goal

-- the station may set it
pub take_edit-requires-clause-allowed : goal.take_edit-requires-clause-allowed
unfolding verdict
take_edit-requires-clause-allowed c = (
  c.args.station,
  ap (λ (xs : List ℕ). calls.set_refusal c.args.station c.args.id c.args.value (desk_in xs)) c.open.ensures.cells
      ∙ (set-refusals c.args.tick (rows_of c.args.self.now) c.args.station c.args.id c.args.value ∙ c.requires.allowed),
)

pub returns-clause-done : goal.returns-clause-done
unfolding step checked_plan plan_of
returns-clause-done c =
    desk-input (inputs.Set c.args.station c.args.id c.args.value) c.args.tick (rows_of c.args.self.now) (desk.kept_of c.take_edit.new.self) (desk.cells_of c.take_edit.new.self) (desk.cells_of c.close_onto.new.self)
    c.args.out.now.items c.close_onto.new.out.items (calls.with_set c.args.id c.args.value (desk_in (rows_of c.args.self.now).desk)) refl c.requires.by c.close_onto.new.self.row.by
    (c.take_edit.ensures.desk ∙ ap (λ (xs : List ℕ). calls.with_set c.args.id c.args.value (desk_in xs)) c.open.ensures.cells)
    c.close_onto.ensures.cells (c.take_edit.ensures.kept ∙ c.open.ensures.kept) c.requires.empty c.close_onto.ensures.changes refl
