use Rattle.tsb_laws.proofs.events.InputLemmas.{make-the-log}
use Rattle.tsb_laws.proofs.events.RowLemmas.{tell-the-inputs}
use Rattle.tsb_laws.proofs.events.inputs_make_the_log.Goals as goal

pub returns : goal.returns
returns c = record { log = make-the-log; row = tell-the-inputs }
