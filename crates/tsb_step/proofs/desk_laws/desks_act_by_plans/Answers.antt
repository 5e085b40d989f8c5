use Rattle.tsb_step.proofs.DeskRunLemmas.{act_by_plans, show_the_same}
use Rattle.tsb_step.proofs.desk_laws.desks_act_by_plans.Goals as goal

pub returns-clause-plans : goal.returns-clause-plans
returns-clause-plans c = act_by_plans

pub returns-clause-display : goal.returns-clause-display
returns-clause-display c = show_the_same
