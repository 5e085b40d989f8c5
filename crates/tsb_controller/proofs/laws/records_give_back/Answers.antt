use Rattle.tsb_controller.proofs.WholeLemmas.{records-give_back, records-few}
use Rattle.tsb_controller.proofs.laws.records_give_back.Goals as goal

pub returns-clause-back : goal.returns-clause-back
returns-clause-back c = records-give_back c.rows_are_told.ensures

pub returns-clause-few : goal.returns-clause-few
returns-clause-few c = records-few
