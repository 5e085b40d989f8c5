use Rattle.tsb_controller.proofs.WholeLemmas.{rows-told}
use Rattle.tsb_controller.proofs.laws.rows_are_told.Goals as goal

pub returns : goal.returns
returns c = rows-told c.rows_are_told.ensures
