use Rattle.tsb_laws.proofs.schedules.CommandLemmas.{schedules-commands}
use Rattle.tsb_laws.proofs.schedules.schedules_are_commands.Goals as goal

pub returns : goal.returns
returns c = schedules-commands
