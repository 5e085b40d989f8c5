use Rattle.std.proofs.Common.{rules}
use Rattle.tsb_plan.specs.PlanOf.{plan_of}
use Rattle.tsb_review.proofs.preempts.is_held_by_input.Goals as goal

pub returns-then-not-has_track : goal.returns-then-not-has_track
unfolding plan_of
returns-then-not-has_track c = search rules fits 100
