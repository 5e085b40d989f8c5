use Rattle.tsb_step.proofs.WaitSoLemmas.{waits-are-so}
use Rattle.tsb_step.proofs.wait_laws.waits_are_so.Goals as goal

pub returns : goal.returns
returns c = waits-are-so
