use Rattle.std.proofs.Common.{◌&&◌, ◌∙◌}
use Rattle.tsb_objects.specs.tsb_plan.Parts.{is_included}
use Rattle.tsb_objects.specs.tsb_plan.PlanOf.{plan_of}
use Rattle.tsb_objects.specs.Checked.{checked_plan}
use Rattle.tsb_heads.specs.Overlaps.{is_lasted_through, lasts}
use Rattle.tsb_heads.proofs.OverlapLemmas.{and-same}
use Rattle.tsb_heads.proofs.overlaps.lasts.Goals as goal

pub returns : goal.returns
unfolding lasts checked_plan plan_of
returns c = λ s is. c.has_some.ensures (λ p. is_included (checked_plan c.args.plan.now) c.args.o p && is_lasted_through (checked_plan c.args.plan.now) s c.args.o p) (λ p. c.intersection.ensures p ∙ and-same _ _ _ _ (c.included-included.ensures p) (c.followed-followed.ensures s is p))
