use Rattle.tsb_command_text.proofs.clock.ReadLemmas.{clock-read}
use Rattle.tsb_command_text.proofs.clock.laws.clocks_are_read.Goals as goal

pub returns : goal.returns
returns c = clock-read
