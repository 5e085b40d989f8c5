use Rattle.tsb_calls.proofs.StateLemmas.{calls-read}
use Rattle.tsb_calls.proofs.laws.states_are_read.Goals as goal

pub returns : goal.returns
returns c = calls-read
