use Rattle.tsb_laws.proofs.times_left.WaitLemmas.{clearances_are_over}
use Rattle.tsb_laws.proofs.times_left.clearances_are_over_as_shown.Goals as goal

pub returns : goal.returns
returns c = clearances_are_over
