use Rattle.std.proofs.Common.{rules}
use Rattle.tsb_plan.specs.PlanOf.{plan_of}
use Rattle.tsb_breaches.proofs.numbers.of_overlap.Goals as goal

pub returns : goal.returns
unfolding plan_of
returns c = search rules fits 100
