use Rattle.tsb_live_text.proofs.saved.EasyLemmas.{easy}
use Rattle.tsb_live_text.proofs.saved.laws.saved_texts_are_plain.Goals as goal

pub returns : goal.returns
returns c = easy
