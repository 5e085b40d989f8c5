use Rattle.std.proofs.Common.{◌≡◌, ◌∙◌, List, ℕ, None, subst, refl}
use Rattle.tsb_objects.specs.Checked.{checked_plan}
use Rattle.tsb_plan.specs.PlanOf.{plan_of}
use Rattle.tsb_transact.specs.Calls as calls
use Rattle.tsb_transact.specs.Cells.{desk_in}
use Rattle.tsb_transact.specs.Layer as desk
use Rattle.tsb_transact.specs.Promises.{IsAborted}
use Rattle.tsb_step.specs.Step.{step, verdict}
use Rattle.tsb_step.specs.declared.inputs.Input.TheVariants as inputs
use Rattle.tsb_bench.specs.Cabinet.{rows_of}
use Rattle.tsb_bench.proofs.DeskLemmas.{makes-none}
use Rattle.tsb_bench.proofs.InputLemmas.{desk-input}
use Rattle.tsb_bench.proofs.cabinet.Cabinet.abort.Goals as goal

-- it is not refused
allowed : (c : goal.After-close_onto) → calls.abort_refusal c.args.station (desk_in (rows_of c.args.self.now).desk) ≡ None
unfolding verdict
allowed c = c.requires.allowed

pub returns-clause-done : goal.returns-clause-done
unfolding step checked_plan plan_of
returns-clause-done c =
    desk-input (inputs.Abort c.args.station) c.args.tick (rows_of c.args.self.now) (desk.kept_of c.abort-done.new.self) (desk.cells_of c.abort-done.new.self) (desk.cells_of c.close_onto.new.self)
    c.args.out.now.items c.close_onto.new.out.items (calls.after_abort) refl c.requires.by c.close_onto.new.self.row.by
    (makes-none (calls.abort_refusal c.args.station (desk_in (rows_of c.args.self.now).desk)) (calls.after_abort) (rows_of c.args.self.now).desk (desk.cells_of c.abort-done.new.self) c.abort-done.result (allowed c)
    (subst (λ (xs : List ℕ). IsAborted c.args.station xs (desk.cells_of c.abort-done.new.self) c.abort-done.result) c.open.ensures.cells c.abort-done.ensures.aborted))
    c.close_onto.ensures.cells (c.abort-done.ensures.kept ∙ c.open.ensures.kept) c.requires.empty c.close_onto.ensures.changes refl
