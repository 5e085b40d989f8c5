use Rattle.std.proofs.Common.{rules}
use Rattle.tsb_command_text.specs.Commands.{command_of_three}
use Rattle.tsb_command_text.proofs.read.of_three.Goals as goal

pub returns-in_err-read_clock : goal.returns-in_err-read_clock
unfolding command_of_three
returns-in_err-read_clock c = search rules fits 100

pub returns-then-is-4 : goal.returns-then-is-4
unfolding command_of_three
returns-then-is-4 c = search rules fits 100
