use Rattle.std.proofs.Common.{rules}
use Rattle.tsb_plan.specs.PlanOf.{plan_of}
use Rattle.tsb_review.proofs.actuation.reduces_too_late.Goals as goal

pub returns-then-time_before_reduction-gt0 : goal.returns-then-time_before_reduction-gt0
unfolding plan_of
returns-then-time_before_reduction-gt0 c = search rules fits 100
