use Rattle.std.proofs.Common.{rules}
use Rattle.tsb_plan.specs.PlanOf.{plan_of}
use Rattle.tsb_breaches.proofs.lists.trails_shortly.Goals as goal

pub returns-then-yellow-ne0 : goal.returns-then-yellow-ne0
unfolding plan_of
returns-then-yellow-ne0 c = search rules fits 100
