use Rattle.tsb_text.proofs.kept.LawLemmas.{gives-again}
use Rattle.tsb_text.proofs.kept.laws.kept_inputs_are_given_again.Goals as goal

pub returns : goal.returns
returns c = gives-again
