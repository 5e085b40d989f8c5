use Rattle.tsb_live_text.proofs.saved.LogLemmas.{logs-read}
use Rattle.tsb_live_text.proofs.saved.laws.saved_logs_are_read.Goals as goal

pub returns : goal.returns
returns c = logs-read
