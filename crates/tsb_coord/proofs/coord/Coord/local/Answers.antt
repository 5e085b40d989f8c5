use Rattle.std.proofs.Common.{rules}
use Rattle.tsb_coord.proofs.coord.Coord.local.Goals as goal

pub returns-in-Some : goal.returns-in-Some
returns-in-Some c = search rules fits 100
