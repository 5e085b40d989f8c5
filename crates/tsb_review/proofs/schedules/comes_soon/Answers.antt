use Rattle.std.proofs.Common.{arith}
use Rattle.std.proofs.lemmas.Grind.{common_steps}
use Rattle.tsb_plan.specs.PlanOf.{plan_of}
use Rattle.tsb_review.proofs.schedules.comes_soon.Goals as goal

pub returns-then-time-later : goal.returns-then-time-later
unfolding plan_of
returns-then-time-later c = grind (arith, common_steps)
