use Rattle.tsb_live_text.proofs.LawLemmas.{last-leaves, lines-leave}
use Rattle.tsb_live_text.proofs.laws.live_inputs_are_taken.Goals as goal

pub returns : goal.returns
returns c = record { lines = lines-leave; last = last-leaves }
