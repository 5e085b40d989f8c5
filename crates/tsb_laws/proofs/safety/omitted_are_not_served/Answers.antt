use Rattle.tsb_laws.proofs.safety.CoordinationLemmas.{omits_hold}
use Rattle.tsb_laws.proofs.safety.omitted_are_not_served.Goals as goal

pub returns : goal.returns
returns c = omits_hold
