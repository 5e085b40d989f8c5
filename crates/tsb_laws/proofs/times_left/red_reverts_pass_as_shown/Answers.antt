use Rattle.tsb_laws.proofs.times_left.WaitLemmas.{red_reverts_pass}
use Rattle.tsb_laws.proofs.times_left.red_reverts_pass_as_shown.Goals as goal

pub returns : goal.returns
returns c = red_reverts_pass
