use Rattle.std.proofs.Common.{arith}
use Rattle.tsb_ring.proofs.OwnLemmas.{picked_by_ring_1}
use Rattle.tsb_ring.proofs.rings.Rings.find_second.Goals as goal

pub find-requires-clause-turn : goal.find-requires-clause-turn
find-requires-clause-turn c = grind (arith, picked_by_ring_1)
