use Rattle.std.proofs.Common.{rules}
use Rattle.tsb_plan.specs.PlanOf.{plan_of}
use Rattle.tsb_review.proofs.overlaps.adds_nothing.Goals as goal

pub returns-then-is_none : goal.returns-then-is_none
unfolding plan_of
returns-then-is_none c = search rules fits 100
