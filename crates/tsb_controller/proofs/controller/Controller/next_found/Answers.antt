use Rattle.std.proofs.Common.{ℕ, Option, Some, subst, sym}
use Rattle.tsb_objects.specs.Checked.{checked_plan}
use Rattle.tsb_controller.specs.Layer.{rows_of}
use Rattle.tsb_controller.specs.StatusPromises.{TellsNext}
use Rattle.tsb_controller.proofs.StatusLemmas.{next-some}
use Rattle.tsb_controller.proofs.controller.Controller.next_found.Goals as goal

pub returns-in-Some : goal.returns-in-Some
returns-in-Some c =
    let plan = checked_plan c.args.plan.now in
    let rows = rows_of c.args.self.now in
    subst (λ (o : Option ℕ). TellsNext c.args.clock plan rows o (Some c.next.result)) (sym c.in-Some.is)
    (next-some c.args.clock plan rows c.in-Some.p c.told.result c.next.result c.told.ensures c.next.ensures.value c.next.ensures.phase)
