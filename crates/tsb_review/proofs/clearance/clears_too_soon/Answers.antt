use Rattle.std.proofs.Common.{rules}
use Rattle.tsb_plan.specs.PlanOf.{plan_of}
use Rattle.tsb_review.proofs.clearance.clears_too_soon.Goals as goal

pub returns-then-red_clear-gt0 : goal.returns-then-red_clear-gt0
unfolding plan_of
returns-then-red_clear-gt0 c = search rules fits 100
