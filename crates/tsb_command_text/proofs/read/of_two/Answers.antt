use Rattle.std.proofs.Common.{rules}
use Rattle.tsb_command_text.specs.Commands.{command_of_two}
use Rattle.tsb_command_text.proofs.read.of_two.Goals as goal

pub returns-then-is-5 : goal.returns-then-is-5
unfolding command_of_two
returns-then-is-5 c = search rules fits 100
