use Rattle.tsb_laws.proofs.operation.calls.CalledStartLemmas.{enters_by_call}
use Rattle.tsb_laws.proofs.starts.uncalled_phases_stay.Goals as goal

pub returns : goal.returns
returns c = enters_by_call
