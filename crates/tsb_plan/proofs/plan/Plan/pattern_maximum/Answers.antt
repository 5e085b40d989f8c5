use Rattle.std.proofs.Common.{rules}
use Rattle.tsb_plan.specs.PlanOf.{plan_of}
use Rattle.tsb_plan.proofs.plan.Plan.pattern_maximum.Goals as goal

pub returns-then-is_coordinated_now : goal.returns-then-is_coordinated_now
unfolding plan_of
returns-then-is_coordinated_now c = search rules fits 100

pub returns-else-is_coordinated_now : goal.returns-else-is_coordinated_now
unfolding plan_of
returns-else-is_coordinated_now c = search rules fits 100
