use Rattle.std.proofs.Common.{rules}
use Rattle.tsb_plan.specs.PlanOf.{plan_of}
use Rattle.tsb_plan.proofs.plan.Plan.is_on_maximum_recall.Goals as goal

pub returns-else-has_maximum_recall : goal.returns-else-has_maximum_recall
unfolding plan_of
returns-else-has_maximum_recall c = search rules fits 100
