use Rattle.tsb_types.proofs.SetLemmas.{names-list_of, list_of-below, list_of-names, same_names}
use Rattle.tsb_types.proofs.laws.lists_tell_their_phases.Goals as goal

pub returns-clause-names : goal.returns-clause-names
returns-clause-names c = λ test p. names-list_of 16 p test

pub returns-clause-within : goal.returns-clause-within
returns-clause-within c = list_of-below 16

pub returns-clause-back : goal.returns-clause-back
returns-clause-back c = list_of-names

pub returns-clause-one : goal.returns-clause-one
returns-clause-one c = same_names 16
