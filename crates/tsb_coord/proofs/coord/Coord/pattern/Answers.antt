use Rattle.std.proofs.Common.{rules}
use Rattle.tsb_coord.proofs.coord.Coord.pattern.Goals as goal

pub returns : goal.returns
returns c = search rules fits 100
