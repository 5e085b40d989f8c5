use Rattle.tsb_ring.proofs.LookLemmas.{moves-same, next-same}
use Rattle.tsb_ring.proofs.laws.looks_only_at_its_own.Goals as goal

pub returns-clause-moves : goal.returns-clause-moves
returns-clause-moves c = moves-same

pub returns-clause-next : goal.returns-clause-next
returns-clause-next c = next-same
