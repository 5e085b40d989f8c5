use Rattle.tsb_laws.proofs.times_left.WalkLemmas.{walks_end}
use Rattle.tsb_laws.proofs.times_left.walks_end_as_shown.Goals as goal

pub returns : goal.returns
returns c = walks_end
