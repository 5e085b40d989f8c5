use Rattle.std.proofs.Common.{arith}
use Rattle.std.proofs.lemmas.Grind.{common_steps}
use Rattle.tsb_coord.proofs.coord.Coord.set_clock.Goals as goal

pub returns-clause-set : goal.returns-clause-set
returns-clause-set c = grind (arith, common_steps)
