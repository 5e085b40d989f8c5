use Rattle.std.proofs.Common.{subst}
use Rattle.tsb_ring.specs.Rings.{ring_numbered}
use Rattle.tsb_controller.specs.Layer.{rows_of}
use Rattle.tsb_controller.specs.Rows.{state_of}
use Rattle.tsb_controller.specs.StatusPromises.{IsToldRing}
use Rattle.tsb_controller.proofs.controller.Controller.rings_told.Goals as goal

pub returns : goal.returns
returns c now b same at = record {
  first = subst (λ n. IsToldRing (state_of now b (rows_of c.args.self.now)) (ring_numbered n) c.ring_told.result) c.of.ensures (c.ring_told.ensures now b same at);
  second = subst (λ n. IsToldRing (state_of now b (rows_of c.args.self.now)) (ring_numbered n) c.ring_told-2.result) c.of-2.ensures (c.ring_told-2.ensures now b same at);
}
