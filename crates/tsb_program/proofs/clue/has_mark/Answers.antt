use Rattle.std.proofs.Common.{rules}
use Rattle.tsb_program.proofs.clue.has_mark.Goals as goal

pub returns-then-second : goal.returns-then-second
returns-then-second c = search rules fits 100

pub returns-else-second : goal.returns-else-second
returns-else-second c = search rules fits 100
