use Rattle.std.proofs.Common.{◌∙◌, ◌++◌, List, ℕ, Bool, ap, ap₂, sym, refl}
use Rattle.tsb_cells.specs.Diff.{diff, shifted}
use Rattle.tsb_objects.specs.Checked.{checked_plan}
use Rattle.tsb_plan.specs.PlanOf.{plan_of, plan_in}
use Rattle.tsb_transact.specs.Calls as calls
use Rattle.tsb_transact.specs.Cells.{desk_in}
use Rattle.tsb_transact.specs.Layer as desk
use Rattle.tsb_step.specs.Cells.{clock_at}
use Rattle.tsb_step.specs.MonitorCells.{trip_in}
use Rattle.tsb_step.specs.Step.{verdict}
use Rattle.tsb_step.specs.declared.inputs.Input.TheVariants as inputs
use Rattle.tsb_step.specs.declared.first_cell.TheConstants.{DESK}
use Rattle.tsb_controller.specs.Layer as layers
use Rattle.tsb_controller.specs.Records.{changes}
use Rattle.tsb_controller.specs.Whole.{All}
use Rattle.tsb_bench.specs.Cabinet.{rows_of}
use Rattle.tsb_bench.proofs.DeskLemmas.{commit-state}
use Rattle.tsb_bench.proofs.InputLemmas.{beside, commit-done, commit-told}
use Rattle.tsb_bench.proofs.ValueLemmas.{values-of}
use Rattle.tsb_bench.proofs.cabinet.Cabinet.commit.Goals as goal

pub put_into_effect-requires-clause-allowed : goal.put_into_effect-requires-clause-allowed
unfolding verdict checked_plan plan_of
put_into_effect-requires-clause-allowed c =
    ap (λ (xs : List ℕ). calls.commit_refusal (checked_plan c.args.self.now.plan) c.args.station c.is_serving-serving.result c.is_preempted-preempted.result (desk_in xs)) c.open.ensures.cells
    ∙ ap₂ (λ (serving preempted : Bool). calls.commit_refusal (checked_plan c.args.self.now.plan) c.args.station serving preempted (desk_in (rows_of c.args.self.now).desk))
    (c.is_serving-serving.ensures c.args.tick (beside (rows_of c.args.self.now)) c.args.self.now.plan refl) (c.is_preempted-preempted.ensures c.args.tick (beside (rows_of c.args.self.now)))
    ∙ c.requires.allowed

pub returns-clause-done : goal.returns-clause-done
unfolding checked_plan plan_of
returns-clause-done c =
    let new : All = record {
      plan = c.put_into_effect.new.plan.plan.values;
      desk = desk.cells_of c.close_onto.new.self;
      layers = layers.rows_of c.forget_if.new.controller;
      monitor = (rows_of c.args.self.now).monitor;
    } in
    commit-done (inputs.Commit c.args.station) c.args.tick (rows_of c.args.self.now) new c.forget_if.new.out.items refl c.requires.by
    (commit-state c.args.tick (rows_of c.args.self.now) new c.args.station c.forgets-forgets.result c.forgets-forgets.ensures
    (c.put_into_effect.ensures.plan ∙ ap (λ (xs : List ℕ). calls.committed_plan (plan_in (rows_of c.args.self.now).plan) (desk_in xs)) c.open.ensures.cells)
    (ap desk_in c.close_onto.ensures.cells ∙ c.put_into_effect.ensures.desk) refl (c.forget_if.ensures.state c.args.tick))
    c.put_into_effect.new.plan.plan.full c.close_onto.new.self.row.by
    (c.forget_if.ensures.by (clock_at c.args.tick (trip_in (rows_of c.args.self.now).monitor)) c.requires.by.layers) refl
    (commit-told (diff (rows_of c.args.self.now).plan c.put_into_effect.new.plan.plan.values) (shifted DESK (diff (rows_of c.args.self.now).desk (desk.cells_of c.close_onto.new.self)))
    (changes (rows_of c.args.self.now).layers (layers.rows_of c.forget_if.new.controller)) c.args.out.now.items c.differences_onto.new.out.items c.close_onto.new.out.items c.forget_if.new.out.items
    c.requires.empty
    (c.differences_onto.ensures.changes ∙ ap₂ (λ (xs ys : List ℕ). c.args.out.now.items ++ diff xs ys) (values-of c.plan.result.now c.args.self.now.plan.plan c.plan.ensures.plan)
    (values-of c.plan-2.result.now c.put_into_effect.new.plan.plan c.plan-2.ensures.plan))
    (c.close_onto.ensures.changes ∙ ap₂ (λ (xs ys : List ℕ). c.differences_onto.new.out.items ++ shifted DESK (diff xs ys)) (c.put_into_effect.ensures.kept ∙ c.open.ensures.kept) (sym c.close_onto.ensures.cells))
    c.forget_if.ensures.changes)
