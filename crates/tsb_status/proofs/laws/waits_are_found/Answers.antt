use Rattle.tsb_status.proofs.WaitFoundLemmas.{waits-are-found}
use Rattle.tsb_status.proofs.laws.waits_are_found.Goals as goal

pub returns : goal.returns
returns c = waits-are-found
