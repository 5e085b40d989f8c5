use Rattle.std.proofs.Common.{rules}
use Rattle.tsb_coord.proofs.coord.Coord.reset.Goals as goal

pub returns-clause-each : goal.returns-clause-each
returns-clause-each c = search rules fits 300
