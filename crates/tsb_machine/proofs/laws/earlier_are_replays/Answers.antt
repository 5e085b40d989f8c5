use Rattle.tsb_machine.proofs.PastLemmas.{pasts_are_the_run, earlier_are_replays}
use Rattle.tsb_machine.proofs.laws.earlier_are_replays.Goals as goal

pub returns-clause-pasts : goal.returns-clause-pasts
returns-clause-pasts g c = pasts_are_the_run

pub returns-clause-earlier : goal.returns-clause-earlier
returns-clause-earlier g c = earlier_are_replays
