use Rattle.tsb_laws.proofs.one_text.TextLemmas.{sessions-one}
use Rattle.tsb_laws.proofs.one_text.sessions_write_one_text.Goals as goal

pub returns : goal.returns
returns c = sessions-one
