use Rattle.std.proofs.Common.{rules}
use Rattle.tsb_plan.specs.PlanOf.{plan_of}
use Rattle.tsb_review.proofs.worksheet.longest_entry.Goals as goal

pub returns-then-has_no_overlaps : goal.returns-then-has_no_overlaps
unfolding plan_of
returns-then-has_no_overlaps c = search rules fits 100
