use Rattle.std.proofs.Common.{arith}
use Rattle.std.proofs.lemmas.Grind.{common_steps}
use Rattle.tsb_plan.specs.PlanOf.{plan_of}
use Rattle.tsb_review.proofs.overlaps.is_split_from.Goals as goal

pub returns-then-ring : goal.returns-then-ring
unfolding plan_of
returns-then-ring c = grind (arith, common_steps)

pub returns-else-ring : goal.returns-else-ring
unfolding plan_of
returns-else-ring c = grind (arith, common_steps)
