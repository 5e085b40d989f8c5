use Rattle.tsb_step.proofs.QuietEventLemmas.{quiet-tells-none}
use Rattle.tsb_step.proofs.event_laws.quiet_ticks_tell_nothing.Goals as goal

pub returns : goal.returns
returns c = quiet-tells-none
