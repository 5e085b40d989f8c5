use Rattle.tsb_event_text.proofs.EventLemmas.{begins-usual}
use Rattle.tsb_event_text.proofs.laws.first_lines_are_usual.Goals as goal

pub returns : goal.returns
returns c = begins-usual
