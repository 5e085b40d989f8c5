use Rattle.tsb_types.proofs.BitLemmas.{names-or}
use Rattle.tsb_types.proofs.detector_set.DetectorSet.union.Goals as goal

pub returns : goal.returns
returns c = names-or _ _
