use Rattle.tsb_step.proofs.WayLemmas.{records_give_back, ticks_are_counted}
use Rattle.tsb_step.proofs.laws.records_give_back.Goals as goal

pub returns-clause-back : goal.returns-clause-back
returns-clause-back c = records_give_back

pub returns-clause-ticks : goal.returns-clause-ticks
returns-clause-ticks c = ticks_are_counted
