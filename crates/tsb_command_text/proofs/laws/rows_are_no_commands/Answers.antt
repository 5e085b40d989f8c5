use Rattle.tsb_command_text.proofs.LawLemmas.{no-commands}
use Rattle.tsb_command_text.proofs.laws.rows_are_no_commands.Goals as goal

pub returns : goal.returns
returns c = no-commands
