use Rattle.std.proofs.Common.{rules}
use Rattle.tsb_plan.specs.PlanOf.{plan_of}
use Rattle.tsb_review.proofs.actuation.has_short_passage.Goals as goal

pub returns-then-passage-gt0 : goal.returns-then-passage-gt0
unfolding plan_of
returns-then-passage-gt0 c = search rules fits 100
