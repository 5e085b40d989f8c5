use Rattle.std.proofs.Common.{arith}
use Rattle.std.proofs.lemmas.Grind.{common_steps}
use Rattle.tsb_plan.specs.PlanOf.{plan_of}
use Rattle.tsb_review.proofs.coordination.is_same_before.Goals as goal

pub returns-then-has_same-4 : goal.returns-then-has_same-4
unfolding plan_of
returns-then-has_same-4 c = grind (arith, common_steps)

pub returns-else-has_same-4 : goal.returns-else-has_same-4
unfolding plan_of
returns-else-has_same-4 c = grind (arith, common_steps)
