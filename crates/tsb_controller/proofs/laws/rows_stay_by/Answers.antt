use Rattle.tsb_controller.proofs.ChangeLemmas.{rows-stay}
use Rattle.tsb_controller.proofs.laws.rows_stay_by.Goals as goal

pub returns : goal.returns
returns c = rows-stay
