use Rattle.tsb_text.proofs.recording.TickLemmas as lemmas
use Rattle.tsb_text.proofs.recording.laws.events_have_their_tick.Goals as goal

pub returns : goal.returns
returns c = lemmas.events_have_their_tick
