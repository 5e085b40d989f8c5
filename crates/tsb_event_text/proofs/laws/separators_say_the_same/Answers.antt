use Rattle.tsb_event_text.proofs.PartLemmas.{alike}
use Rattle.tsb_event_text.proofs.laws.separators_say_the_same.Goals as goal

pub returns : goal.returns
returns c = alike
