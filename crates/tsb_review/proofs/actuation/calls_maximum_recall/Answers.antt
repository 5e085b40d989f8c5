use Rattle.std.proofs.Common.{rules}
use Rattle.tsb_plan.specs.PlanOf.{plan_of}
use Rattle.tsb_review.proofs.actuation.calls_maximum_recall.Goals as goal

pub returns-in-Some : goal.returns-in-Some
unfolding plan_of
returns-in-Some c = search rules fits 100
