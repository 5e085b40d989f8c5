use Rattle.std.proofs.Common.{rules, arith}
use Rattle.std.proofs.lemmas.Grind.{common_steps}
use Rattle.tsb_ring.proofs.rings.Rings.are_still.Goals as goal

pub returns-then-are_bound : goal.returns-then-are_bound
returns-then-are_bound c = search rules fits 100

pub returns-else-are_bound : goal.returns-else-are_bound
returns-else-are_bound c = grind (arith, common_steps)
