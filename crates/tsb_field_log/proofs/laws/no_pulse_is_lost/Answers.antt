use Rattle.tsb_field_log.proofs.TickLemmas.{on-at-some-moment}
use Rattle.tsb_field_log.proofs.laws.no_pulse_is_lost.Goals as goal

pub returns : goal.returns
returns c = on-at-some-moment
