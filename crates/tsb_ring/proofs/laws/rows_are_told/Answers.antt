use Rattle.tsb_ring.proofs.ToldLemmas.{rows-told}
use Rattle.tsb_ring.proofs.laws.rows_are_told.Goals as goal

pub returns : goal.returns
returns c = rows-told
