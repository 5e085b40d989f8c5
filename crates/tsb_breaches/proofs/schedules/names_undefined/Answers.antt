use Rattle.std.proofs.Common.{rules}
use Rattle.tsb_plan.specs.PlanOf.{plan_of}
use Rattle.tsb_breaches.proofs.schedules.names_undefined.Goals as goal

pub returns-then-action-ne0 : goal.returns-then-action-ne0
unfolding plan_of
returns-then-action-ne0 c = search rules fits 100
