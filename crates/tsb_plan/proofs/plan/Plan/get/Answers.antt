use Rattle.std.proofs.Common.{arith}
use Rattle.std.proofs.lemmas.Grind.{common_steps}
use Rattle.tsb_plan.specs.PlanOf.{plan_of}
use Rattle.tsb_plan.proofs.plan.Plan.get.Goals as goal

pub returns-then-id-eq0 : goal.returns-then-id-eq0
unfolding plan_of
returns-then-id-eq0 c = grind (arith, common_steps)
