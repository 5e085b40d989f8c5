use Rattle.tsb_log_text.proofs.LawLemmas.{the-rows, malformed-there, out-of-order-there}
use Rattle.tsb_log_text.proofs.laws.logs_are_rows_that_rise.Goals as goal

pub returns-clause-rows : goal.returns-clause-rows
returns-clause-rows c = the-rows

pub returns-clause-malformed : goal.returns-clause-malformed
returns-clause-malformed c = malformed-there

pub returns-clause-out_of_order : goal.returns-clause-out_of_order
returns-clause-out_of_order c = out-of-order-there
