use Rattle.std.proofs.Common.{rules}
use Rattle.tsb_command_text.specs.LiveCommands.{own_of_two}
use Rattle.tsb_command_text.proofs.live_read.own_of_two.Goals as goal

pub returns-then-eq-3 : goal.returns-then-eq-3
unfolding own_of_two
returns-then-eq-3 c = search rules fits 100
