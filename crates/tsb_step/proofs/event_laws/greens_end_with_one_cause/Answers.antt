use Rattle.tsb_step.proofs.EventLemmas.{no-cause, one-cause}
use Rattle.tsb_step.proofs.event_laws.greens_end_with_one_cause.Goals as goal

pub returns-clause-one : goal.returns-clause-one
returns-clause-one c = one-cause

pub returns-clause-none : goal.returns-clause-none
returns-clause-none c = no-cause
