use Rattle.tsb_command_text.proofs.LawLemmas.{same-commands, same-layouts, same-skips}
use Rattle.tsb_command_text.proofs.laws.commands_of_sessions_are_kept.Goals as goal

pub returns-clause-commands : goal.returns-clause-commands
returns-clause-commands c = same-commands

pub returns-clause-layouts : goal.returns-clause-layouts
returns-clause-layouts c = same-layouts

pub returns-clause-skipped : goal.returns-clause-skipped
returns-clause-skipped c = same-skips
