use Rattle.tsb_text.proofs.recording.ClockLemmas as lemmas
use Rattle.tsb_text.proofs.recording.laws.clocks_are_first_lines.Goals as goal

pub returns : goal.returns
returns c = lemmas.clocks_are_first_lines
