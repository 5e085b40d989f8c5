use Rattle.std.proofs.Common.{rules}
use Rattle.tsb_plan.specs.PlanOf.{plan_of}
use Rattle.tsb_review.proofs.preempts.lasts_too_long.Goals as goal

pub returns-then-preempt_maximum_presence-gt0 : goal.returns-then-preempt_maximum_presence-gt0
unfolding plan_of
returns-then-preempt_maximum_presence-gt0 c = search rules fits 100
