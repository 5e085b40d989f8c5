use Rattle.std.proofs.Common.{rules}
use Rattle.tsb_plan.specs.PlanOf.{plan_of}
use Rattle.tsb_review.proofs.worksheet.has_share.Goals as goal

pub returns-then-is_enabled : goal.returns-then-is_enabled
unfolding plan_of
returns-then-is_enabled c = search rules fits 100
