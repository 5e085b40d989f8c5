use Rattle.tsb_laws.proofs.way_back.TimerLemmas.{waiting-not-written}
use Rattle.tsb_laws.proofs.way_back.waiting_timers_are_not_written.Goals as goal

pub returns : goal.returns
returns c = waiting-not-written
