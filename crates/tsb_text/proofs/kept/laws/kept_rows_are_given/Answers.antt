use Rattle.tsb_text.proofs.kept.LawLemmas.{rows-given}
use Rattle.tsb_text.proofs.kept.laws.kept_rows_are_given.Goals as goal

pub returns : goal.returns
returns c = rows-given
