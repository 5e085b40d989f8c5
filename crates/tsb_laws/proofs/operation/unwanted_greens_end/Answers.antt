use Rattle.tsb_laws.proofs.operation.preempt.UnwantedGreenLemmas.{waits_or_ends}
use Rattle.tsb_laws.proofs.operation.unwanted_greens_end.Goals as goal

pub returns : goal.returns
returns c = waits_or_ends
