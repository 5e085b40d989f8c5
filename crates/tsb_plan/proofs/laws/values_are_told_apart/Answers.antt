use Rattle.tsb_plan.proofs.PlanLemmas.{gives_back, leaves_others}
use Rattle.tsb_plan.proofs.ToldLemmas.{plan_cells-plan_in}
use Rattle.tsb_plan.proofs.laws.values_are_told_apart.Goals as goal

pub returns-clause-told : goal.returns-clause-told
returns-clause-told c = plan_cells-plan_in

pub returns-clause-back : goal.returns-clause-back
returns-clause-back c = gives_back

pub returns-clause-others : goal.returns-clause-others
returns-clause-others c = leaves_others
