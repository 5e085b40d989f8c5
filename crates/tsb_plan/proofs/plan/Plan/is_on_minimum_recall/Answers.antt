use Rattle.std.proofs.Common.{rules}
use Rattle.tsb_plan.specs.PlanOf.{plan_of}
use Rattle.tsb_plan.proofs.plan.Plan.is_on_minimum_recall.Goals as goal

pub returns-else-recalls_minimum : goal.returns-else-recalls_minimum
unfolding plan_of
returns-else-recalls_minimum c = search rules fits 100
