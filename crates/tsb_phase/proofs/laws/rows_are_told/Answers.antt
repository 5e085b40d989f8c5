use Rattle.tsb_phase.proofs.ToldLemmas.{rows-told}
use Rattle.tsb_phase.proofs.laws.rows_are_told.Goals as goal

pub returns : goal.returns
returns c = rows-told
