use Rattle.tsb_events.proofs.AgreeLemmas.{ticks-same}
use Rattle.tsb_events.proofs.laws.ticks_tell_by_numbers.Goals as goal

pub returns : goal.returns
returns c = ticks-same
