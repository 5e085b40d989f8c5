use Rattle.std.proofs.Common.{rules}
use Rattle.tsb_plan.specs.PlanOf.{plan_of}
use Rattle.tsb_review.proofs.actuation.ends_at_any_gap.Goals as goal

pub returns-then-is_unextended : goal.returns-then-is_unextended
unfolding plan_of
returns-then-is_unextended c = search rules fits 100
