use Rattle.std.proofs.Common.{rules}
use Rattle.tsb_plan.specs.PlanOf.{plan_of}
use Rattle.tsb_review.proofs.pedestrians.overruns_split.Goals as goal

pub returns-then-not-is_omitted_now : goal.returns-then-not-is_omitted_now
unfolding plan_of
returns-then-not-is_omitted_now c = search rules fits 100
