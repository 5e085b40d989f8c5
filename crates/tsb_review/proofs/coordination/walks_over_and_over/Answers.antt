use Rattle.std.proofs.Common.{rules}
use Rattle.tsb_plan.specs.PlanOf.{plan_of}
use Rattle.tsb_review.proofs.coordination.walks_over_and_over.Goals as goal

pub returns-then-is_coordinated_now : goal.returns-then-is_coordinated_now
unfolding plan_of
returns-then-is_coordinated_now c = search rules fits 100
