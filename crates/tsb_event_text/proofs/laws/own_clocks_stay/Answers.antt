use Rattle.tsb_event_text.proofs.FormLemmas.{own-stay}
use Rattle.tsb_event_text.proofs.laws.own_clocks_stay.Goals as goal

pub returns : goal.returns
returns c = own-stay
