use Rattle.tsb_laws.proofs.operation.preempt.StageRunLemmas.{stages_reached, exits_end}
use Rattle.tsb_laws.proofs.operation.preempts_reach_their_stages.Goals as goal

pub returns-clause-stages : goal.returns-clause-stages
returns-clause-stages c = stages_reached

pub returns-clause-exits : goal.returns-clause-exits
returns-clause-exits c = exits_end
