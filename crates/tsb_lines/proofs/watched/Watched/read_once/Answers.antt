use Rattle.std.proofs.Common.{rules}
use Rattle.tsb_lines.proofs.watched.Watched.read_once.Goals as goal

pub returns-then-is_err-clause-blame : goal.returns-then-is_err-clause-blame
returns-then-is_err-clause-blame g c = search rules fits 100
