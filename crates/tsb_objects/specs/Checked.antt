-- What a checked plan says.
use Rattle.tsb_objects.specs.declared.checked.Checked.{Checked}
use Rattle.tsb_plan.specs.Plan.{Plan}
use Rattle.tsb_plan.specs.PlanOf.{plan_of}

-- the plan that its cells tell, of 16 phases and 4 sides; by the type `Checked` it breaks no rule
unfoldable pub checked_plan : Checked → Plan
checked_plan checked = plan_of checked.plan
