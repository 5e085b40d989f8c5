use Rattle.std.proofs.Common.{rules}
use Rattle.tsb_plan.specs.PlanOf.{plan_of}
use Rattle.tsb_plan.proofs.plan.Plan.is_on_pedestrian_recall.Goals as goal

pub returns-else-has_pedestrian_recall : goal.returns-else-has_pedestrian_recall
unfolding plan_of
returns-else-has_pedestrian_recall c = search rules fits 100
