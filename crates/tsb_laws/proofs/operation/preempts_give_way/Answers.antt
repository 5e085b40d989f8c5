use Rattle.tsb_step.specs.Runs.{replay}
use Rattle.tsb_laws.proofs.operation.preempt.PreemptTurnLemmas.{gives_way, ends_from}
use Rattle.tsb_laws.proofs.operation.preempts_give_way.Goals as goal

pub returns-clause-turns : goal.returns-clause-turns
returns-clause-turns c plan is ok taken = gives_way (replay plan is)

pub returns-clause-ends : goal.returns-clause-ends
returns-clause-ends c plan is ok taken = ends_from (replay plan is)
