use Rattle.std.proofs.Common.{arith}
use Rattle.std.proofs.lemmas.Grind.{common_steps}
use Rattle.tsb_plan.specs.PlanOf.{plan_of}
use Rattle.tsb_review.proofs.preempts.ends_pedestrians.Goals as goal

pub returns-else-not-contains : goal.returns-else-not-contains
unfolding plan_of
returns-else-not-contains c = grind (arith, common_steps)
