use Rattle.tsb_laws.proofs.operation.preempt.WantedPhaseLemmas.{wanted_starts}
use Rattle.tsb_laws.proofs.operation.wanted_phases_start.Goals as goal

pub returns : goal.returns
returns c = wanted_starts
