use Rattle.std.proofs.Common.{rules}
use Rattle.tsb_ring.proofs.rings.Rings.is_kept.Goals as goal

pub returns-else-is_some-2 : goal.returns-else-is_some-2
returns-else-is_some-2 c = search rules fits 100
