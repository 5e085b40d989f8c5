use Rattle.std.proofs.Common.{rules}
use Rattle.tsb_plan.specs.PlanOf.{plan_of}
use Rattle.tsb_review.proofs.pedestrians.has_short_walk.Goals as goal

pub returns-then-serves_pedestrians : goal.returns-then-serves_pedestrians
unfolding plan_of
returns-then-serves_pedestrians c = search rules fits 100
