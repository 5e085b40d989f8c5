use Rattle.tsb_phase.proofs.StateLemmas.{states-read}
use Rattle.tsb_phase.proofs.laws.states_are_read.Goals as goal

pub returns : goal.returns
returns c = states-read
