use Rattle.tsb_laws.proofs.versions.RunLemmas.{heads_agree, fields_agree, counters_agree, stages_agree, states_agree}
use Rattle.tsb_laws.proofs.versions.benches_show_the_same.Goals as goal

pub returns-clause-heads : goal.returns-clause-heads
returns-clause-heads c = heads_agree

pub returns-clause-fields : goal.returns-clause-fields
returns-clause-fields c = fields_agree

pub returns-clause-counters : goal.returns-clause-counters
returns-clause-counters c = counters_agree

pub returns-clause-stages : goal.returns-clause-stages
returns-clause-stages c = stages_agree

pub returns-clause-states : goal.returns-clause-states
returns-clause-states c = states_agree
