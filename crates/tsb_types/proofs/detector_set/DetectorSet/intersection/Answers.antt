use Rattle.tsb_types.proofs.BitLemmas.{names-and}
use Rattle.tsb_types.proofs.detector_set.DetectorSet.intersection.Goals as goal

pub returns : goal.returns
returns c = names-and _ _
