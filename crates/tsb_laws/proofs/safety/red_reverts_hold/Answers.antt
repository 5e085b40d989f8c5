use Rattle.tsb_laws.proofs.safety.RevertLemmas.{reverts_hold}
use Rattle.tsb_laws.proofs.safety.red_reverts_hold.Goals as goal

pub returns : goal.returns
returns c = reverts_hold
