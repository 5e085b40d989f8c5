use Rattle.std.proofs.Common.{arith, rules}
use Rattle.std.proofs.lemmas.Grind.{common_steps}
use Rattle.tsb_plan.specs.PlanOf.{plan_of}
use Rattle.tsb_breaches.proofs.lists.is_turn_with.Goals as goal

pub returns-else-eq : goal.returns-else-eq
unfolding plan_of
returns-else-eq c = grind (arith, common_steps)

pub returns-else-contains : goal.returns-else-contains
unfolding plan_of
returns-else-contains c = search rules fits 100
