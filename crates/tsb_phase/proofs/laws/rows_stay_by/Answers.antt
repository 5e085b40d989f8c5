use Rattle.tsb_phase.proofs.ReadLemmas.{stays-by}
use Rattle.tsb_phase.proofs.laws.rows_stay_by.Goals as goal

pub returns : goal.returns
returns c = stays-by
