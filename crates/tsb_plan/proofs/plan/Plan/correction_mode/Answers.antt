use Rattle.std.proofs.Common.{rules}
use Rattle.tsb_plan.specs.PlanOf.{plan_of}
use Rattle.tsb_plan.proofs.plan.Plan.correction_mode.Goals as goal

pub returns-in-2 : goal.returns-in-2
unfolding plan_of
returns-in-2 c = search rules fits 100

pub returns-in-3 : goal.returns-in-3
unfolding plan_of
returns-in-3 c = search rules fits 100
