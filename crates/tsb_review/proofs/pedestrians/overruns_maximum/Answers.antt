use Rattle.std.proofs.Common.{rules}
use Rattle.tsb_plan.specs.PlanOf.{plan_of}
use Rattle.tsb_review.proofs.pedestrians.overruns_maximum.Goals as goal

pub returns-then-has_detector : goal.returns-then-has_detector
unfolding plan_of
returns-then-has_detector c = search rules fits 100
