use Rattle.std.proofs.Common.{rules}
use Rattle.tsb_coord.proofs.coord.Coord.clocked.Goals as goal

pub returns-in-Some-clause-value : goal.returns-in-Some-clause-value
returns-in-Some-clause-value c = search rules fits 100
