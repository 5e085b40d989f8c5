use Rattle.std.proofs.Common.{arith}
use Rattle.std.proofs.lemmas.Grind.{common_steps}
use Rattle.tsb_plan.specs.PlanOf.{plan_of}
use Rattle.tsb_objects.proofs.pattern_tables.put_instants.Goals as goal

pub loop-number-preserved : goal.loop-number-preserved
unfolding plan_of
loop-number-preserved c = grind (arith, common_steps)
