use Rattle.std.proofs.Common.{rules}
use Rattle.tsb_plan.specs.PlanOf.{plan_of}
use Rattle.tsb_review.proofs.alike.is_permissive_alike.Goals as goal

pub returns-then-eq : goal.returns-then-eq
unfolding plan_of
returns-then-eq c = search rules fits 100
