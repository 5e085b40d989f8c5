use Rattle.tsb_heads.proofs.OwnLemmas.{passed-again, staying-pass}
use Rattle.tsb_heads.proofs.laws.staying_heads_pass.Goals as goal

pub returns-clause-quiet : goal.returns-clause-quiet
returns-clause-quiet c = staying-pass

pub returns-clause-again : goal.returns-clause-again
returns-clause-again c = passed-again
