use Rattle.tsb_log_text.proofs.TextLemmas.{text-read}
use Rattle.tsb_log_text.proofs.WrittenLemmas.{form-read-back, lists-read}
use Rattle.tsb_log_text.proofs.laws.rows_are_read_back.Goals as goal

pub returns-clause-digits : goal.returns-clause-digits
returns-clause-digits c = text-read

pub returns-clause-lists : goal.returns-clause-lists
returns-clause-lists c = lists-read

pub returns-clause-own : goal.returns-clause-own
returns-clause-own c = form-read-back
