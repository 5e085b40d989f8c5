use Rattle.tsb_text.proofs.recording.StopLemmas as lemmas
use Rattle.tsb_text.proofs.recording.laws.no_line_stops_others.Goals as goal

pub returns : goal.returns
returns c = lemmas.no_line_stops_others
