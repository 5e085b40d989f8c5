use Rattle.std.proofs.Common.{Bool, subst}
use Rattle.tsb_objects.specs.Checked.{checked_plan}
use Rattle.tsb_overlap.specs.Promises.{TellsHolder}
use Rattle.tsb_controller.specs.Layer.{rows_of}
use Rattle.tsb_controller.proofs.StatusLemmas.{phase-found}
use Rattle.tsb_controller.proofs.controller.Controller.found.Goals as goal

pub returns : goal.returns
returns c =
    phase-found c.args.clock (checked_plan c.args.plan.now) (rows_of c.args.self.now) c.args.p c.told.result c.green_found.result
    c.stage.result c.holder.result c.told.ensures c.green_found.ensures c.stage.ensures
    (subst (λ (b : Bool). TellsHolder c.args.p c.args.clock b (checked_plan c.args.plan.now) (rows_of c.args.self.now).overlaps c.holder.result) c.is_some-is_preempted.ensures c.holder.ensures)
