use Rattle.tsb_overlap.proofs.StateLemmas.{states-read}
use Rattle.tsb_overlap.proofs.StateLemmas.{states-by}
use Rattle.tsb_overlap.proofs.StateLemmas.{rows-are_states}
use Rattle.tsb_overlap.proofs.laws.states_are_read.Goals as goal

pub returns-clause-read : goal.returns-clause-read
returns-clause-read c = states-read

pub returns-clause-by : goal.returns-clause-by
returns-clause-by c = states-by

pub returns-clause-back : goal.returns-clause-back
returns-clause-back c = rows-are_states
