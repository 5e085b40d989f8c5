use Rattle.tsb_ring.specs.Rings.{Ring1, Ring2}
use Rattle.tsb_step.specs.State.{State}
use Rattle.tsb_controller.specs.Layer.{rows_of}
use Rattle.tsb_controller.specs.Rows.{state_of}
use Rattle.tsb_controller.specs.StatusPromises.{AreFoundWaits}
use Rattle.tsb_controller.proofs.controller.Controller.waits_of.Goals as goal

pub returns : goal.returns
returns c b stands rings p from to =
    let told = c.args.beside.now in
    let s : State = state_of told.tick b (rows_of c.args.self.now) in
    let found : AreFoundWaits s (record { first = c.ring_found.result; second = c.ring_found-2.result; around = c.around.result }) = record {
      first = c.ring_found.ensures told.tick b Ring1 stands.plan_is stands.clock_is rings.first;
      second = c.ring_found-2.ensures told.tick b Ring2 stands.plan_is stands.clock_is rings.second;
      around = λ q. c.around.ensures told.tick b q stands.plan_is stands.trips;
    } in
    c.waits.ensures p from to told.tick b stands.plan_is stands.clock_is found
