use Rattle.tsb_preempt.proofs.OwnLemmas.{looks-own, orders-as-next, ticks-as-next}
use Rattle.tsb_preempt.proofs.laws.looks_only_at_its_own.Goals as goal

pub returns-clause-same : goal.returns-clause-same
returns-clause-same c = looks-own

pub returns-clause-ticked : goal.returns-clause-ticked
returns-clause-ticked c = ticks-as-next

pub returns-clause-ordered : goal.returns-clause-ordered
returns-clause-ordered c = orders-as-next
