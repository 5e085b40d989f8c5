use Rattle.tsb_controller.proofs.WholeLemmas.{records-back}
use Rattle.tsb_controller.proofs.laws.records_go_back.Goals as goal

pub returns : goal.returns
returns c = records-back c.rows_are_told.ensures
