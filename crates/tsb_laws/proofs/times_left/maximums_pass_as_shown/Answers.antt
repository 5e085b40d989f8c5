use Rattle.tsb_laws.proofs.times_left.GreenLemmas.{maximums_pass}
use Rattle.tsb_laws.proofs.times_left.maximums_pass_as_shown.Goals as goal

pub returns : goal.returns
returns c = maximums_pass
