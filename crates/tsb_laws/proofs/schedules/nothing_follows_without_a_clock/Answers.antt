use Rattle.tsb_laws.proofs.schedules.FollowLemmas.{no-clock}
use Rattle.tsb_laws.proofs.schedules.nothing_follows_without_a_clock.Goals as goal

pub returns : goal.returns
returns c = no-clock
