use Rattle.std.proofs.Common.{rules}
use Rattle.tsb_plan.specs.PlanOf.{plan_of}
use Rattle.tsb_review.proofs.finding.of_phase.Goals as goal

pub returns-in-A23 : goal.returns-in-A23
unfolding plan_of
returns-in-A23 c = search rules fits 100

pub returns-in-A24 : goal.returns-in-A24
unfolding plan_of
returns-in-A24 c = search rules fits 100
