use Rattle.tsb_command_text.proofs.LawLemmas.{same-numbers}
use Rattle.tsb_command_text.proofs.laws.changes_count_as_steps.Goals as goal

pub returns : goal.returns
returns c = same-numbers
