use Rattle.tsb_objects.specs.Checked.{checked_plan}
use Rattle.tsb_controller.specs.Layer.{rows_of}
use Rattle.tsb_controller.proofs.StatusLemmas.{green-found}
use Rattle.tsb_controller.proofs.controller.Controller.green_found.Goals as goal

pub returns : goal.returns
returns c =
    green-found (checked_plan c.args.plan.now) (rows_of c.args.self.now) c.args.p _ c.stage.result
    c.known.ensures.from c.known.ensures.within c.count.ensures c.running.ensures.runs c.stage.ensures c.preempt_of.ensures
    c.is_held.ensures c.is_unwanted.ensures
