use Rattle.std.proofs.Common.{rules}
use Rattle.tsb_command_text.specs.LiveCommands.{own_of_one}
use Rattle.tsb_command_text.proofs.live_read.own_of_one.Goals as goal

pub returns-then-eq-5 : goal.returns-then-eq-5
unfolding own_of_one
returns-then-eq-5 c = search rules fits 100

pub returns-then-eq : goal.returns-then-eq
unfolding own_of_one
returns-then-eq c = search rules fits 100
