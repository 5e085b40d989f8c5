use Rattle.tsb_laws.proofs.versions.RunLemmas.{others_rest}
use Rattle.tsb_laws.proofs.versions.other_phases_rest.Goals as goal

pub returns : goal.returns
returns c = others_rest
