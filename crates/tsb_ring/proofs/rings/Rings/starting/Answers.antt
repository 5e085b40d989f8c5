use Rattle.std.proofs.Common.{rules}
use Rattle.tsb_ring.specs.Next.{starting}
use Rattle.tsb_ring.proofs.rings.Rings.starting.Goals as goal

pub returns-then-now : goal.returns-then-now
unfolding starting
returns-then-now c = search rules fits 100
