use Rattle.tsb_text.proofs.recording.StopLemmas as lemmas
use Rattle.tsb_text.proofs.recording.laws.strict_records_stop_at_the_first.Goals as goal

pub returns : goal.returns
returns c = lemmas.strict_records_stop_at_the_first
