use Rattle.tsb_laws.proofs.times_left.GreenLemmas.{gaps_expire}
use Rattle.tsb_laws.proofs.times_left.gaps_expire_as_shown.Goals as goal

pub returns : goal.returns
returns c = gaps_expire
