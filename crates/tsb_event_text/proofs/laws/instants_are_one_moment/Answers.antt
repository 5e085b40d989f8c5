use Rattle.tsb_event_text.proofs.FormLemmas.{one-moment}
use Rattle.tsb_event_text.proofs.laws.instants_are_one_moment.Goals as goal

pub returns : goal.returns
returns c = one-moment
