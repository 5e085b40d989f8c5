use Rattle.tsb_laws.proofs.operation.calls.FreeRunLemmas.{served_in_time}
use Rattle.tsb_laws.proofs.operation.called_phases_are_served.Goals as goal

pub returns : goal.returns
returns c = served_in_time
