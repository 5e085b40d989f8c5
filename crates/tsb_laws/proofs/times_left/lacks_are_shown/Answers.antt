use Rattle.tsb_laws.proofs.times_left.LackLemmas.{lacks_shown}
use Rattle.tsb_laws.proofs.times_left.lacks_are_shown.Goals as goal

pub returns : goal.returns
returns c = lacks_shown
