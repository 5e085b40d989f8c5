use Rattle.std.proofs.Common.{rules}
use Rattle.tsb_log_text.proofs.error.LogLineDisplay.fmt.Goals as goal

pub returns-in-TickOrder-clause-writes : goal.returns-in-TickOrder-clause-writes
returns-in-TickOrder-clause-writes g c = search rules fits 100
