use Rattle.std.proofs.Common.{arith}
use Rattle.std.proofs.lemmas.Grind.{common_steps}
use Rattle.tsb_plan.specs.PlanOf.{plan_of}
use Rattle.tsb_objects.proofs.agreement.agree_for_patterns.Goals as goal

pub returns-then-agree_between-4 : goal.returns-then-agree_between-4
unfolding plan_of
returns-then-agree_between-4 c = grind (arith, common_steps)
