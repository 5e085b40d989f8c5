use Rattle.tsb_laws.proofs.times_left.WalkLemmas.{clearances_end}
use Rattle.tsb_laws.proofs.times_left.clearances_end_as_shown.Goals as goal

pub returns : goal.returns
returns c = clearances_end
