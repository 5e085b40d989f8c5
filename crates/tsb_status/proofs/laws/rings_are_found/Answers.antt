use Rattle.tsb_status.proofs.RingFoundLemmas.{rings-found}
use Rattle.tsb_status.proofs.laws.rings_are_found.Goals as goal

pub returns : goal.returns
returns c = rings-found
