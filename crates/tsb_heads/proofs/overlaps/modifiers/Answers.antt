use Rattle.std.proofs.Common.{◌∙◌, ap}
use Rattle.tsb_objects.specs.tsb_plan.Plan.{Plan}
use Rattle.tsb_objects.specs.tsb_plan.Parts.{is_modifier}
use Rattle.tsb_heads.proofs.overlaps.modifiers.Goals as goal

pub returns : goal.returns
returns c = λ p. c.modifier_phases.ensures p ∙ ap (λ (plan : Plan). is_modifier plan c.args.o p) c.plan.ensures.plan
