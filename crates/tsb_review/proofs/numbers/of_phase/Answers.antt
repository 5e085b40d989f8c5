use Rattle.std.proofs.Common.{rules}
use Rattle.tsb_plan.specs.PlanOf.{plan_of}
use Rattle.tsb_review.proofs.numbers.of_phase.Goals as goal

pub returns-in-A18 : goal.returns-in-A18
unfolding plan_of
returns-in-A18 c = search rules fits 100
