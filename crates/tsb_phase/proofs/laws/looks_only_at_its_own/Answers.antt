use Rattle.tsb_phase.proofs.OwnLemmas.{looks_only}
use Rattle.tsb_phase.proofs.laws.looks_only_at_its_own.Goals as goal

pub returns : goal.returns
returns c = looks_only
