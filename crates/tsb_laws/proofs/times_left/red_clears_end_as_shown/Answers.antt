use Rattle.tsb_laws.proofs.times_left.RedClearLemmas.{red_clears_end}
use Rattle.tsb_laws.proofs.times_left.red_clears_end_as_shown.Goals as goal

pub returns : goal.returns
returns c = red_clears_end
