use Rattle.tsb_laws.proofs.times_left.GreenLemmas.{initials_pass}
use Rattle.tsb_laws.proofs.times_left.initials_pass_as_shown.Goals as goal

pub returns : goal.returns
returns c = initials_pass
