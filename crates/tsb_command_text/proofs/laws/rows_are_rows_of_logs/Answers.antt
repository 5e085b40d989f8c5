use Rattle.tsb_command_text.proofs.LawLemmas.{rows-of-logs}
use Rattle.tsb_command_text.proofs.laws.rows_are_rows_of_logs.Goals as goal

pub returns : goal.returns
returns c = rows-of-logs
