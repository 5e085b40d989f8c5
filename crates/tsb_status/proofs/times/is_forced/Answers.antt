use Rattle.std.proofs.Common.{rules}
use Rattle.tsb_status.proofs.times.is_forced.Goals as goal

pub returns-then-is_on : goal.returns-then-is_on
returns-then-is_on c = search rules fits 100
