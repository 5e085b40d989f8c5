use Rattle.tsb_transact.proofs.ToldLemmas.{rows_are_told}
use Rattle.tsb_transact.proofs.laws.rows_are_told.Goals as goal

pub returns : goal.returns
returns c = rows_are_told
