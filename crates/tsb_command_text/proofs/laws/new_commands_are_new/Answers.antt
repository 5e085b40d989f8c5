use Rattle.tsb_command_text.proofs.LawLemmas.{new-commands}
use Rattle.tsb_command_text.proofs.laws.new_commands_are_new.Goals as goal

pub returns : goal.returns
returns c = new-commands
