use Rattle.tsb_ring.proofs.ToldLemmas.{states-read, states-by}
use Rattle.tsb_ring.proofs.laws.states_are_read.Goals as goal

pub returns : goal.returns
returns c s is = (states-read s is, states-by s is)
