use Rattle.tsb_laws.proofs.operation.preempt.PreemptEntryLemmas.{lets_in_its_own}
use Rattle.tsb_laws.proofs.operation.preempts_let_in_their_own.Goals as goal

pub returns : goal.returns
returns c = lets_in_its_own
