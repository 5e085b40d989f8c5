use Rattle.tsb_laws.proofs.operation.preempt.StageServiceLemmas.{dwells_reached}
use Rattle.tsb_laws.proofs.operation.preempts_reach_dwell_in_time.Goals as goal

pub returns : goal.returns
returns c = dwells_reached
