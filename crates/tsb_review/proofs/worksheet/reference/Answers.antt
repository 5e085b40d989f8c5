use Rattle.std.proofs.Common.{rules}
use Rattle.tsb_plan.specs.PlanOf.{plan_of}
use Rattle.tsb_review.proofs.worksheet.reference.Goals as goal

pub returns-in-Some : goal.returns-in-Some
unfolding plan_of
returns-in-Some c = search rules fits 100

pub returns-in-None : goal.returns-in-None
unfolding plan_of
returns-in-None c = search rules fits 100
