use Rattle.std.proofs.Common.{rules}
use Rattle.tsb_plan.specs.PlanOf.{plan_of}
use Rattle.tsb_objects.proofs.instants.counted_from.Goals as goal

pub returns-in-Some-clause-value : goal.returns-in-Some-clause-value
unfolding plan_of
returns-in-Some-clause-value c = search rules fits 100
