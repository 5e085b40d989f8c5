use Rattle.tsb_coord.proofs.OffsetLemmas.{moments_come}
use Rattle.tsb_coord.proofs.laws.offsets_are_counted_to_their_moments.Goals as goal

pub returns : goal.returns
returns c = moments_come
