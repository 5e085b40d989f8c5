use Rattle.std.proofs.Common.{rules}
use Rattle.tsb_plan.specs.PlanOf.{plan_of}
use Rattle.tsb_review.proofs.worksheet.longest_by_choice.Goals as goal

pub returns : goal.returns
unfolding plan_of
returns c = search rules fits 100
