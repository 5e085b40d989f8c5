use Rattle.tsb_overlap.proofs.ToldLemmas.{overlaps-told}
use Rattle.tsb_overlap.proofs.laws.rows_are_told.Goals as goal

pub returns : goal.returns
returns c = overlaps-told
