use Rattle.tsb_events.proofs.AgreeLemmas.{others-same}
use Rattle.tsb_events.proofs.laws.others_tell_by_numbers.Goals as goal

pub returns : goal.returns
returns c = others-same
