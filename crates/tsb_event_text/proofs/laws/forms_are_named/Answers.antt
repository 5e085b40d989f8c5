use Rattle.tsb_event_text.proofs.FormLemmas.{forms-named}
use Rattle.tsb_event_text.proofs.laws.forms_are_named.Goals as goal

pub returns : goal.returns
returns c = forms-named
