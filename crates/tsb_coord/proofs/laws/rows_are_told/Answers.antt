use Rattle.tsb_coord.proofs.CellLemmas.{row_told}
use Rattle.tsb_coord.proofs.laws.rows_are_told.Goals as goal

pub returns : goal.returns
returns c = row_told
