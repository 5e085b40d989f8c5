use Rattle.std.proofs.Common.{rules}
use Rattle.tsb_plan.specs.PlanOf.{plan_of}
use Rattle.tsb_objects.proofs.offsets.counted_to.Goals as goal

pub returns-in-LastYellow : goal.returns-in-LastYellow
unfolding plan_of
returns-in-LastYellow c = search rules fits 100
