use Rattle.std.proofs.Common.{rules}
use Rattle.tsb_history.proofs.bytes.is_quiet.Goals as goal

pub returns-in-Tick : goal.returns-in-Tick
returns-in-Tick c = search rules fits 100
