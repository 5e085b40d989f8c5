use Rattle.tsb_event_text.proofs.TakenLemmas.{read-and-taken}
use Rattle.tsb_event_text.proofs.laws.lines_are_read_again.Goals as goal

pub returns : goal.returns
returns c = read-and-taken
