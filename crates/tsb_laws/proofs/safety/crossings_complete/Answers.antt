use Rattle.tsb_laws.proofs.safety.CrossingLemmas.{completes_in_time}
use Rattle.tsb_laws.proofs.safety.crossings_complete.Goals as goal

pub returns : goal.returns
returns c = completes_in_time
