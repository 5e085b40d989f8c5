use Rattle.tsb_objects.specs.tsb_plan.PlanOf.{plan_of}
use Rattle.tsb_objects.specs.Checked.{checked_plan}
use Rattle.tsb_calls.proofs.called_by.phases_called_by.Goals as goal

pub returns : goal.returns
unfolding checked_plan plan_of
returns c = c.phases_called_by.ensures
