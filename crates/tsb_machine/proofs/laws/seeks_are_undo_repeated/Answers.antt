use Rattle.tsb_machine.proofs.PastLemmas.{seeks_are_replays, seeks_are_least}
use Rattle.tsb_machine.proofs.laws.seeks_are_undo_repeated.Goals as goal

pub returns-clause-replays : goal.returns-clause-replays
returns-clause-replays g c = seeks_are_replays

pub returns-clause-least : goal.returns-clause-least
returns-clause-least g c = seeks_are_least
