use Rattle.tsb_live_text.proofs.saved.CommandLemmas.{commands-read}
use Rattle.tsb_live_text.proofs.saved.laws.saved_commands_are_read.Goals as goal

pub returns : goal.returns
returns c = commands-read
