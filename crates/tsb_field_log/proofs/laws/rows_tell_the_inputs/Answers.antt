use Rattle.tsb_field_log.proofs.LawLemmas.{force, inputs}
use Rattle.tsb_field_log.proofs.laws.rows_tell_the_inputs.Goals as goal

pub returns-clause-force : goal.returns-clause-force
returns-clause-force c = force

pub returns-clause-inputs : goal.returns-clause-inputs
returns-clause-inputs c = inputs
