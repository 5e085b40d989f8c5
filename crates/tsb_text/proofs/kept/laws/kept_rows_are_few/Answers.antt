use Rattle.tsb_text.proofs.kept.LawLemmas.{rows-few}
use Rattle.tsb_text.proofs.kept.laws.kept_rows_are_few.Goals as goal

pub returns : goal.returns
returns c = rows-few
