use Rattle.tsb_step.proofs.ClearLemmas.{in_step_at_once, stays_in_step}
use Rattle.tsb_step.proofs.clearance_laws.local_counters_stay_in_step.Goals as goal

pub returns-clause-at_once : goal.returns-clause-at_once
returns-clause-at_once c = in_step_at_once

pub returns-clause-stays : goal.returns-clause-stays
returns-clause-stays c = stays_in_step
