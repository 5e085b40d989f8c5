use Rattle.tsb_controller.proofs.ChangeLemmas.{rows-back, entries-within, changes-few}
use Rattle.tsb_controller.proofs.laws.rows_go_back.Goals as goal

pub returns-clause-back : goal.returns-clause-back
returns-clause-back c = rows-back

pub returns-clause-within : goal.returns-clause-within
returns-clause-within c = entries-within

pub returns-clause-few : goal.returns-clause-few
returns-clause-few c = changes-few
