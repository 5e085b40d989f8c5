use Rattle.std.proofs.Common.{rules}
use Rattle.tsb_lines.proofs.watched.Watched.write_once.Goals as goal

pub returns-in-Ok-clause-flushed : goal.returns-in-Ok-clause-flushed
returns-in-Ok-clause-flushed g c = search rules fits 100

pub returns-clause-flushed : goal.returns-clause-flushed
returns-clause-flushed g c = search rules fits 100
