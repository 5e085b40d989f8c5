use Rattle.tsb_detect.proofs.StateLemmas.{states-read, states-by}
use Rattle.tsb_detect.proofs.laws.states_are_read.Goals as goal

pub returns-clause-read : goal.returns-clause-read
returns-clause-read c = states-read

pub returns-clause-by : goal.returns-clause-by
returns-clause-by c = states-by
