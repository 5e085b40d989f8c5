use Rattle.tsb_overlap.proofs.OwnLemmas.{untimed-stays}
use Rattle.tsb_overlap.proofs.OwnLemmas.{untimed-free}
use Rattle.tsb_overlap.proofs.laws.untimed_overlaps_stay.Goals as goal

pub returns-clause-stay : goal.returns-clause-stay
returns-clause-stay c = untimed-stays

pub returns-clause-free : goal.returns-clause-free
returns-clause-free c = untimed-free
