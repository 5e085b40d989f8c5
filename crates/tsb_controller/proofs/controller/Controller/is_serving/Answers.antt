use Rattle.std.proofs.Common.{ℕ, Bool, ◌||◌, is_some, ap, ◌∙◌}
use Rattle.tsb_ring.specs.Cells.{rings_in}
use Rattle.tsb_ring.specs.Layer.{cells_of}
use Rattle.tsb_ring.specs.Rings.{ring_numbered}
use Rattle.tsb_controller.specs.Layer.{rows_of}
use Rattle.tsb_controller.proofs.ReaderLemmas.{serving-told}
use Rattle.tsb_controller.proofs.controller.Controller.is_serving.Goals as goal

pub returns : goal.returns
returns c now b checked same =
    c.serves.ensures
    ∙ ap (λ (x : Bool). (x || (is_some c.commitment.result || is_some c.commitment-2.result)) || is_some c.crossing.result) c.has_service.ensures
    ∙ serving-told (rows_of c.args.self.now) c.intervals.result c.commitment.result c.commitment-2.result c.crossing.result c.intervals.ensures
    (c.commitment.ensures ∙ ap (λ (r : ℕ). (rings_in (cells_of c.args.self.now.rings)).commitment (ring_numbered r)) c.of.ensures)
    (c.commitment-2.ensures ∙ ap (λ (r : ℕ). (rings_in (cells_of c.args.self.now.rings)).commitment (ring_numbered r)) c.of-2.ensures)
    c.crossing.ensures now b checked same
