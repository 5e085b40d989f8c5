use Rattle.tsb_laws.proofs.sizes.RuleLemmas.{first_broken-same}
use Rattle.tsb_laws.proofs.sizes.RunLemmas.{states_same, show_the_same, refuse_the_same, take_the_same}
use Rattle.tsb_laws.proofs.sizes.sizes_do_the_same.Goals as goal

pub returns-clause-rules : goal.returns-clause-rules
returns-clause-rules c = first_broken-same

pub returns-clause-states : goal.returns-clause-states
returns-clause-states c = states_same

pub returns-clause-shown : goal.returns-clause-shown
returns-clause-shown c = show_the_same

pub returns-clause-refused : goal.returns-clause-refused
returns-clause-refused c = refuse_the_same

pub returns-clause-taken : goal.returns-clause-taken
returns-clause-taken c = take_the_same
