use Rattle.std.proofs.Common.{rules}
use Rattle.tsb_plan.specs.PlanOf.{plan_of}
use Rattle.tsb_review.proofs.service.has_two_recalls.Goals as goal

pub returns-then-has_soft_recall : goal.returns-then-has_soft_recall
unfolding plan_of
returns-then-has_soft_recall c = search rules fits 100

pub returns-else-has_soft_recall : goal.returns-else-has_soft_recall
unfolding plan_of
returns-else-has_soft_recall c = search rules fits 100
