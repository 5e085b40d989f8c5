use Rattle.std.proofs.Common.{rules}
use Rattle.tsb_status.proofs.rings.green_part.Goals as goal

pub returns-then-is_on : goal.returns-then-is_on
returns-then-is_on c = search rules fits 100

pub returns-else-is_on : goal.returns-else-is_on
returns-else-is_on c = search rules fits 100
