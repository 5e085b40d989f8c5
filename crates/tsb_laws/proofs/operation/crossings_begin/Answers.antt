use Rattle.tsb_laws.proofs.operation.calls.FreeRunLemmas.{begins_in_time}
use Rattle.tsb_laws.proofs.operation.crossings_begin.Goals as goal

pub returns : goal.returns
returns c = begins_in_time
