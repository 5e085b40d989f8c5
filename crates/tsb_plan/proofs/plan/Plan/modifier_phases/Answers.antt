use Rattle.std.proofs.Common.{rules}
use Rattle.tsb_plan.specs.PlanOf.{plan_of}
use Rattle.tsb_plan.proofs.plan.Plan.modifier_phases.Goals as goal

pub returns : goal.returns
unfolding plan_of
returns c = search rules fits 100
