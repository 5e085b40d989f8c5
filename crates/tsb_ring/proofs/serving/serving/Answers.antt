use Rattle.std.proofs.Common.{◌∙◌, refl}
use Rattle.tsb_objects.specs.Checked.{checked_plan}
use Rattle.tsb_objects.specs.tsb_plan.PlanOf.{plan_of}
use Rattle.tsb_types.specs.Lists.{run_from}
use Rattle.tsb_ring.specs.Rings.{serving}
use Rattle.tsb_ring.proofs.serving.serving.Goals as goal
use Rattle.tsb_types.proofs.FirstLemmas.{first-same}

pub returns : goal.returns
unfolding checked_plan plan_of serving
returns c = c.first.ensures.found ∙ first-same _ _ (run_from 1 16) (λ p.
    c.intersection.ensures p ∙ rw (c.of_ring.ensures p, c.in_service.ensures p) refl)
