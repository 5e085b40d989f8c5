use Rattle.tsb_laws.proofs.safety.AllRedLemmas.{all_red_ends}
use Rattle.tsb_laws.proofs.safety.all_red_ends.Goals as goal

pub returns : goal.returns
returns c = all_red_ends
