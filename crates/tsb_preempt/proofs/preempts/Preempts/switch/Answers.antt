use Rattle.std.proofs.Common.{rules}
use Rattle.tsb_preempt.proofs.preempts.Preempts.switch.Goals as goal

pub returns-in-None-clause-set : goal.returns-in-None-clause-set
returns-in-None-clause-set c = search rules fits 100

pub returns-in-None-clause-by : goal.returns-in-None-clause-by
returns-in-None-clause-by c = search rules fits 100
