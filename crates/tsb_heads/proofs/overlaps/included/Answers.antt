use Rattle.std.proofs.Common.{◌∙◌, ap}
use Rattle.tsb_objects.specs.tsb_plan.Plan.{Plan}
use Rattle.tsb_objects.specs.tsb_plan.Parts.{is_included}
use Rattle.tsb_heads.proofs.overlaps.included.Goals as goal

pub returns : goal.returns
returns c = λ p. c.included_phases.ensures p ∙ ap (λ (plan : Plan). is_included plan c.args.o p) c.plan.ensures.plan
