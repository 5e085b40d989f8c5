use Rattle.std.proofs.Common.{rules}
use Rattle.tsb_plan.specs.PlanOf.{plan_of}
use Rattle.tsb_review.proofs.overlaps.is_split.Goals as goal

pub returns-then-not-is_arrow : goal.returns-then-not-is_arrow
unfolding plan_of
returns-then-not-is_arrow c = search rules fits 100
