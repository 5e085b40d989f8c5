use Rattle.std.proofs.Common.{arith}
use Rattle.std.proofs.lemmas.Grind.{common_steps}
use Rattle.tsb_objects.specs.Checked.{checked_plan}
use Rattle.tsb_plan.specs.PlanOf.{plan_of}
use Rattle.tsb_bench.proofs.cabinet.Cabinet.ends_minute.Goals as goal

pub returns-in-Some : goal.returns-in-Some
unfolding checked_plan plan_of
returns-in-Some c = grind (arith, common_steps)
