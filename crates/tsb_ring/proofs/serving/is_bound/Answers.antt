use Rattle.std.proofs.Common.{rules}
use Rattle.tsb_ring.proofs.serving.is_bound.Goals as goal

pub returns-then-is_some : goal.returns-then-is_some
returns-then-is_some c = search rules fits 100

pub returns-else-is_some : goal.returns-else-is_some
returns-else-is_some c = search rules fits 100
