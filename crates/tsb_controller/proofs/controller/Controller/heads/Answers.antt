use Rattle.std.proofs.Common.{ℕ, ap, ◌∙◌}
use Rattle.tsb_ring.specs.Cells.{rings_in}
use Rattle.tsb_ring.specs.Layer.{cells_of}
use Rattle.tsb_ring.specs.Rings.{ring_numbered}
use Rattle.tsb_controller.proofs.controller.Controller.heads.Goals as goal

pub returns-clause-shown : goal.returns-clause-shown
returns-clause-shown c = record {
  intervals = c.intervals.result;
  pedestrians = c.pedestrians.result;
  ring_1 = c.commitment.result;
  ring_2 = c.commitment-2.result;
  lights = c.lights.result;
  intervals_are = c.intervals.ensures;
  pedestrians_are = c.pedestrians.ensures;
  first_is = c.commitment.ensures ∙ ap (λ (r : ℕ). (rings_in (cells_of c.args.self.now.rings)).commitment (ring_numbered r)) c.of.ensures;
  second_is = c.commitment-2.ensures ∙ ap (λ (r : ℕ). (rings_in (cells_of c.args.self.now.rings)).commitment (ring_numbered r)) c.of-2.ensures;
  lights_are = c.lights.ensures;
  displayed = c.new.ensures.heads;
}
