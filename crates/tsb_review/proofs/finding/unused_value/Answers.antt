use Rattle.std.proofs.Common.{rules}
use Rattle.tsb_plan.specs.PlanOf.{plan_of}
use Rattle.tsb_review.proofs.finding.unused_value.Goals as goal

pub returns-in_default : goal.returns-in_default
unfolding plan_of
returns-in_default c = search rules fits 100
