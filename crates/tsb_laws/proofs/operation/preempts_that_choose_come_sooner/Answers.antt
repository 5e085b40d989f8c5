use Rattle.tsb_laws.proofs.operation.preempt.ChosenStageLemmas.{chosen_stages, chosen_dwells}
use Rattle.tsb_laws.proofs.operation.preempts_that_choose_come_sooner.Goals as goal

pub returns-clause-stages : goal.returns-clause-stages
returns-clause-stages c = chosen_stages

pub returns-clause-dwells : goal.returns-clause-dwells
returns-clause-dwells c = chosen_dwells
