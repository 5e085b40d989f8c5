use Rattle.std.proofs.Common.{rules}
use Rattle.tsb_plan.specs.PlanOf.{plan_of}
use Rattle.tsb_review.proofs.splits.is_passed.Goals as goal

pub returns-then-is_forced_after : goal.returns-then-is_forced_after
unfolding plan_of
returns-then-is_forced_after c = search rules fits 100
