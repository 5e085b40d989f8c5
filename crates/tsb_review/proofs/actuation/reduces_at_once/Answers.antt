use Rattle.std.proofs.Common.{rules}
use Rattle.tsb_plan.specs.PlanOf.{plan_of}
use Rattle.tsb_review.proofs.actuation.reduces_at_once.Goals as goal

pub returns-then-time_before_reduction-eq0 : goal.returns-then-time_before_reduction-eq0
unfolding plan_of
returns-then-time_before_reduction-eq0 c = search rules fits 100

pub returns-else-time_before_reduction-eq0 : goal.returns-else-time_before_reduction-eq0
unfolding plan_of
returns-else-time_before_reduction-eq0 c = search rules fits 100
