use Rattle.tsb_laws.proofs.versions.RunLemmas.{refusals_agree, take_the_same}
use Rattle.tsb_laws.proofs.versions.benches_take_the_same.Goals as goal

pub returns-clause-refusals : goal.returns-clause-refusals
returns-clause-refusals c = refusals_agree

pub returns-clause-same : goal.returns-clause-same
returns-clause-same c = take_the_same
