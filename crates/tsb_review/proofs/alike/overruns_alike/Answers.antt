use Rattle.std.proofs.Common.{rules}
use Rattle.tsb_plan.specs.PlanOf.{plan_of}
use Rattle.tsb_review.proofs.alike.overruns_alike.Goals as goal

pub returns-then-overruns_split : goal.returns-then-overruns_split
unfolding plan_of
returns-then-overruns_split c = search rules fits 100
