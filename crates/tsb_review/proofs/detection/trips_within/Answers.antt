use Rattle.std.proofs.Common.{rules}
use Rattle.tsb_plan.specs.PlanOf.{plan_of}
use Rattle.tsb_review.proofs.detection.trips_within.Goals as goal

pub returns-then-maximum_presence-gt0 : goal.returns-then-maximum_presence-gt0
unfolding plan_of
returns-then-maximum_presence-gt0 c = search rules fits 100
