use Rattle.std.proofs.Common.{rules}
use Rattle.tsb_plan.specs.PlanOf.{plan_of}
use Rattle.tsb_review.proofs.preempts.cuts_walk.Goals as goal

pub returns-then-ends_pedestrians : goal.returns-then-ends_pedestrians
unfolding plan_of
returns-then-ends_pedestrians c = search rules fits 100
