use Rattle.std.proofs.Common.{ℕ, ◌∙◌, ap}
use Rattle.tsb_ring.specs.Cells.{rings_in}
use Rattle.tsb_ring.specs.Layer.{cells_of}
use Rattle.tsb_ring.specs.Rings.{ring_numbered}
use Rattle.tsb_controller.proofs.controller.Controller.overlap_lasts.Goals as goal

pub returns : goal.returns
returns c = record {
  intervals = c.intervals.result;
  ring_1 = c.commitment.result;
  ring_2 = c.commitment-2.result;
  intervals_are = c.intervals.ensures;
  first_is = c.commitment.ensures ∙ ap (λ (r : ℕ). (rings_in (cells_of c.args.self.now.rings)).commitment (ring_numbered r)) c.of.ensures;
  second_is = c.commitment-2.ensures ∙ ap (λ (r : ℕ). (rings_in (cells_of c.args.self.now.rings)).commitment (ring_numbered r)) c.of-2.ensures;
  told = c.some_overlap_lasts.ensures;
}
