use Rattle.std.proofs.Common.{rules}
use Rattle.tsb_command_text.proofs.read.reading_of.Goals as goal

pub returns-then-is_skipped : goal.returns-then-is_skipped
returns-then-is_skipped c = search rules fits 100

pub returns-in-Some : goal.returns-in-Some
returns-in-Some c = search rules fits 100
