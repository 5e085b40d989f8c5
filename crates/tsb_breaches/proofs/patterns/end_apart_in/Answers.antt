use Rattle.std.proofs.Common.{rules}
use Rattle.tsb_plan.specs.PlanOf.{plan_of}
use Rattle.tsb_breaches.proofs.patterns.end_apart_in.Goals as goal

pub returns-in-Some : goal.returns-in-Some
unfolding plan_of
returns-in-Some c = search rules fits 100
