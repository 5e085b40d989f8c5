use Rattle.tsb_laws.proofs.safety.ServedLemmas.{are_served}
use Rattle.tsb_laws.proofs.safety.commitments_are_served.Goals as goal

pub returns : goal.returns
returns c = are_served
