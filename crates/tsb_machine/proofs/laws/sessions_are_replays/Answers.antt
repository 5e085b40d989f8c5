use Rattle.tsb_machine.proofs.PlayLemmas.{benches_answer}
use Rattle.tsb_machine.proofs.SessionLemmas.{sessions_are_replays}
use Rattle.tsb_machine.proofs.laws.sessions_are_replays.Goals as goal

pub returns-clause-answers : goal.returns-clause-answers
returns-clause-answers g c = benches_answer

pub returns-clause-replays : goal.returns-clause-replays
returns-clause-replays g c = sessions_are_replays
