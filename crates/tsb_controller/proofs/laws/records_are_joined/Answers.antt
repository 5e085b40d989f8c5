use Rattle.tsb_controller.proofs.WholeLemmas.{records-joined}
use Rattle.tsb_controller.proofs.laws.records_are_joined.Goals as goal

pub returns : goal.returns
returns c = records-joined c.rows_are_told.ensures
