use Rattle.std.proofs.Common.{rules}
use Rattle.tsb_command_text.proofs.lamps.lamp.Goals as goal

pub returns-then-is : goal.returns-then-is
returns-then-is c = search rules fits 100

pub returns-then-letter-eq80 : goal.returns-then-letter-eq80
returns-then-letter-eq80 c = search rules fits 100
