use Rattle.tsb_field_log.proofs.LawLemmas.{logs, long, short}
use Rattle.tsb_field_log.proofs.laws.what_is_written_is_a_log.Goals as goal

pub returns-clause-logs : goal.returns-clause-logs
returns-clause-logs c = logs

pub returns-clause-long : goal.returns-clause-long
returns-clause-long c = long

pub returns-clause-short : goal.returns-clause-short
returns-clause-short c = short
