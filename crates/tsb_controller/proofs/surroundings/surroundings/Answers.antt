use Rattle.std.proofs.Common.{ℕ, ap, refl, ◌∙◌}
use Rattle.tsb_ring.specs.Cells.{rings_in}
use Rattle.tsb_ring.specs.Layer.{cells_of}
use Rattle.tsb_ring.specs.Rings.{ring_numbered}
use Rattle.tsb_controller.proofs.surroundings.surroundings.Goals as goal

pub returns : goal.returns
returns c = record {
  was_green_is = refl;
  intervals_are = c.intervals.ensures;
  pedestrians_are = c.pedestrians.ensures;
  since_are = c.since.ensures.told;
  first_is = c.commitment.ensures ∙ ap (λ (r : ℕ). (rings_in (cells_of c.args.rings.now)).commitment (ring_numbered r)) c.of.ensures;
  second_is = c.commitment-2.ensures ∙ ap (λ (r : ℕ). (rings_in (cells_of c.args.rings.now)).commitment (ring_numbered r)) c.of-2.ensures;
  preempted_is = refl;
}
