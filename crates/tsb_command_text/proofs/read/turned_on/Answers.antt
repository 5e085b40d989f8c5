use Rattle.std.proofs.Common.{rules}
use Rattle.tsb_command_text.proofs.read.turned_on.Goals as goal

pub returns-then-is-2 : goal.returns-then-is-2
returns-then-is-2 c = search rules fits 100
