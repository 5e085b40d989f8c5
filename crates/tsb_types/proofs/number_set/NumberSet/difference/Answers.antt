use Rattle.std.proofs.Common.{arith, w16}
use Rattle.tsb_types.proofs.BitLemmas.{names-minus}
use Rattle.tsb_types.proofs.number_set.NumberSet.difference.Goals as goal

pub returns : goal.returns
returns c = λ n. names-minus w16 _ _ n (omega arith) (omega arith)
