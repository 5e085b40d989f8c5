use Rattle.tsb_laws.proofs.operation.calls.FreeRunLemmas.{comes_in_time}
use Rattle.tsb_laws.proofs.operation.called_phases_come.Goals as goal

pub returns : goal.returns
returns c = comes_in_time
