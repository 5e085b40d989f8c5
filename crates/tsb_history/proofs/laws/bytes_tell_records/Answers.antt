use Rattle.tsb_history.proofs.LawLemmas.{unambiguous}
use Rattle.tsb_history.proofs.laws.bytes_tell_records.Goals as goal

pub returns : goal.returns
returns c = unambiguous
