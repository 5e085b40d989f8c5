use Rattle.std.proofs.Common.{arith}
use Rattle.std.proofs.lemmas.Grind.{common_steps}
use Rattle.tsb_coord.proofs.coord.Coord.cycle_state.Goals as goal

pub returns-else-ahead_in-eq0 : goal.returns-else-ahead_in-eq0
returns-else-ahead_in-eq0 c = grind (arith, common_steps)
