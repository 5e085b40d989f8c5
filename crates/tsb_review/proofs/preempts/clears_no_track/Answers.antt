use Rattle.std.proofs.Common.{rules}
use Rattle.tsb_plan.specs.PlanOf.{plan_of}
use Rattle.tsb_review.proofs.preempts.clears_no_track.Goals as goal

pub returns-then-preempt_delay-eq0 : goal.returns-then-preempt_delay-eq0
unfolding plan_of
returns-then-preempt_delay-eq0 c = search rules fits 100
