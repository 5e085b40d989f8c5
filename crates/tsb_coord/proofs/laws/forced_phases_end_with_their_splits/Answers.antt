use Rattle.tsb_coord.proofs.LocalLemmas.{ends_with_its_split, ends_at_zero, ends_in_time, ends_near_zero}
use Rattle.tsb_coord.proofs.laws.forced_phases_end_with_their_splits.Goals as goal

pub returns-clause-ends : goal.returns-clause-ends
returns-clause-ends c = ends_with_its_split

pub returns-clause-at_zero : goal.returns-clause-at_zero
returns-clause-at_zero c = ends_at_zero

pub returns-clause-in_time : goal.returns-clause-in_time
returns-clause-in_time c = ends_in_time

pub returns-clause-near_zero : goal.returns-clause-near_zero
returns-clause-near_zero c = ends_near_zero
