use Rattle.tsb_overlap.proofs.LawLemmas.{is-its_turn}
use Rattle.tsb_overlap.proofs.laws.arrows_are_their_turns.Goals as goal

pub returns : goal.returns
returns c = is-its_turn
