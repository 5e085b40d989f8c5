use Rattle.std.proofs.Common.{arith}
use Rattle.std.proofs.lemmas.Grind.{common_steps}
use Rattle.tsb_coord.proofs.coord.Coord.set_pattern.Goals as goal

pub returns-in-None-clause-selected : goal.returns-in-None-clause-selected
returns-in-None-clause-selected c = grind (arith, common_steps)
