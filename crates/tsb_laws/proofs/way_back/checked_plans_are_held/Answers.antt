use Rattle.tsb_step.specs.tsb_objects.Checked.{checked_plan}
use Rattle.tsb_laws.proofs.way_back.PlanLemmas.{checked_is_held, held_in_range}
use Rattle.tsb_laws.proofs.way_back.checked_plans_are_held.Goals as goal

pub returns-clause-held : goal.returns-clause-held
returns-clause-held c = checked_is_held

pub returns-clause-range : goal.returns-clause-range
returns-clause-range c checked = held_in_range (checked_plan checked) (checked_is_held checked)
