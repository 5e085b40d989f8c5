use Rattle.std.proofs.Common.{rules}
use Rattle.tsb_plan.specs.PlanOf.{plan_of}
use Rattle.tsb_review.proofs.actuation.has_idle_initial.Goals as goal

pub returns-then-has_variable_initial : goal.returns-then-has_variable_initial
unfolding plan_of
returns-then-has_variable_initial c = search rules fits 100
