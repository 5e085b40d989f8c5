use Rattle.tsb_laws.proofs.way_back.ToldLemmas.{takes-back, pasts-are, earlier-are}
use Rattle.tsb_laws.proofs.way_back.pasts_are_the_run.Goals as goal

pub returns-clause-back : goal.returns-clause-back
returns-clause-back c = takes-back

pub returns-clause-pasts : goal.returns-clause-pasts
returns-clause-pasts c = pasts-are

pub returns-clause-earlier : goal.returns-clause-earlier
returns-clause-earlier c = earlier-are
