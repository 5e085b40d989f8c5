use Rattle.tsb_transact.proofs.ToldLemmas.{states_are_read}
use Rattle.tsb_transact.proofs.laws.states_are_read.Goals as goal

pub returns : goal.returns
returns c = states_are_read
