use Rattle.std.proofs.Common.{arith}
use Rattle.std.proofs.lemmas.Grind.{common_steps}
use Rattle.tsb_plan.specs.PlanOf.{plan_of}
use Rattle.tsb_breaches.specs.Lists.{turns_of}
use Rattle.tsb_breaches.proofs.lists.turns_of.Goals as goal

pub loop-phase-preserved : goal.loop-phase-preserved
unfolding plan_of turns_of
loop-phase-preserved c = grind (arith, common_steps)
