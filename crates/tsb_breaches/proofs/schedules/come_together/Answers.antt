use Rattle.std.proofs.Common.{rules}
use Rattle.tsb_plan.specs.PlanOf.{plan_of}
use Rattle.tsb_breaches.proofs.schedules.come_together.Goals as goal

pub returns-then-action_of-ne0-2 : goal.returns-then-action_of-ne0-2
unfolding plan_of
returns-then-action_of-ne0-2 c = search rules fits 100
