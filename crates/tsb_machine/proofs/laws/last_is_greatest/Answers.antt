use Rattle.tsb_machine.proofs.WatchLemmas.{last_is_greatest}
use Rattle.tsb_machine.proofs.laws.last_is_greatest.Goals as goal

pub returns : goal.returns
returns g c = last_is_greatest
