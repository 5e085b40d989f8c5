use Rattle.std.proofs.Common.{rules}
use Rattle.tsb_plan.specs.PlanOf.{plan_of}
use Rattle.tsb_objects.specs.Checked.{checked_plan}
use Rattle.tsb_objects.proofs.checked.Checked.arrows.Goals as goal

pub returns : goal.returns
unfolding plan_of checked_plan
returns c = search rules fits 100
