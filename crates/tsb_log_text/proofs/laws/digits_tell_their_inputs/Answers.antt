use Rattle.tsb_log_text.proofs.LawLemmas.{digits-tell}
use Rattle.tsb_log_text.proofs.laws.digits_tell_their_inputs.Goals as goal

pub returns : goal.returns
returns c = digits-tell
