use Rattle.std.proofs.Common.{◌∙◌, sym}
use Rattle.tsb_step.specs.Waits.{served}
use Rattle.tsb_ring.specs.Rings.{ring_numbered}
use Rattle.tsb_controller.specs.Layer.{rows_of}
use Rattle.tsb_controller.specs.Rows.{state_of}
use Rattle.tsb_controller.proofs.StatusLemmas.{first-served, none-served, some-served}
use Rattle.tsb_controller.proofs.controller.Controller.served.Goals as goal

pub returns-in-None : goal.returns-in-None
returns-in-None c now b same at =
    let rows = rows_of c.args.self.now in
    none-served (state_of now b rows) (served (state_of now b rows) (ring_numbered c.args.r))
    (sym c.in-None.is ∙ c.first.ensures.found ∙ first-served c.args.plan.now rows c.args.r c.ring.result c.phases_on.result c.intersection.result c.known.ensures.from c.known.ensures.within
    c.ring.ensures c.phases_on.ensures c.intersection.ensures now b same)

pub returns-in-Some : goal.returns-in-Some
returns-in-Some c now b same at =
    let rows = rows_of c.args.self.now in
    some-served (state_of now b rows) (served (state_of now b rows) (ring_numbered c.args.r)) c.in-Some.p c.found.result
    (sym c.in-Some.is ∙ c.first.ensures.found ∙ first-served c.args.plan.now rows c.args.r c.ring.result c.phases_on.result c.intersection.result c.known.ensures.from c.known.ensures.within
    c.ring.ensures c.phases_on.ensures c.intersection.ensures now b same) (c.found.ensures now b same at)
