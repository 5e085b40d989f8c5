use Rattle.tsb_overlap.proofs.CellLemmas.{rows-later}
use Rattle.tsb_overlap.proofs.laws.rows_stay_by.Goals as goal

pub returns : goal.returns
returns c = rows-later
