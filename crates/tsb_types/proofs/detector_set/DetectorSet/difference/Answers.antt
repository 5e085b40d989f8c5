use Rattle.std.proofs.Common.{arith, w64}
use Rattle.tsb_types.proofs.BitLemmas.{names-minus}
use Rattle.tsb_types.proofs.detector_set.DetectorSet.difference.Goals as goal

pub returns : goal.returns
returns c = λ n. names-minus w64 _ _ n (omega arith) (omega arith)
