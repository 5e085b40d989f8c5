use Rattle.tsb_laws.proofs.events.BackLemmas.{heads-told-back}
use Rattle.tsb_laws.proofs.events.runs_tell_the_heads.Goals as goal

pub returns : goal.returns
returns c = heads-told-back
