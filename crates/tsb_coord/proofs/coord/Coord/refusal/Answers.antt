use Rattle.std.proofs.Common.{rules}
use Rattle.tsb_coord.proofs.coord.Coord.refusal.Goals as goal

pub returns-else-is_used : goal.returns-else-is_used
returns-else-is_used c = search rules fits 100
