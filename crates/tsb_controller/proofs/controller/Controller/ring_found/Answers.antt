use Rattle.tsb_objects.specs.Checked.{checked_plan}
use Rattle.tsb_controller.specs.Layer.{rows_of}
use Rattle.tsb_controller.proofs.StatusLemmas.{ring-found}
use Rattle.tsb_controller.proofs.controller.Controller.ring_found.Goals as goal

pub returns : goal.returns
returns c =
    ring-found c.args.clock (checked_plan c.args.plan.now) (rows_of c.args.self.now) c.args.told.now c.served.result c.next_found.result
    c.served.ensures.value c.served.ensures.phase c.next_found.ensures
