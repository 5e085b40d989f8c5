use Rattle.tsb_types.proofs.BitLemmas.{names-and}
use Rattle.tsb_types.proofs.number_set.NumberSet.intersection.Goals as goal

pub returns : goal.returns
returns c = names-and _ _
