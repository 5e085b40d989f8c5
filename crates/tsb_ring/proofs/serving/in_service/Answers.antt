use Rattle.std.proofs.Common.{◌∙◌}
use Rattle.tsb_ring.proofs.BoolLemmas.{served}
use Rattle.tsb_ring.proofs.serving.in_service.Goals as goal

pub returns : goal.returns
returns c p = c.union-2.ensures p ∙ rw (c.union.ensures p) (served _ _ _)
