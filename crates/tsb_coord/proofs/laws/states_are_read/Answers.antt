use Rattle.tsb_coord.proofs.CellLemmas.{pattern_read, pattern_by}
use Rattle.tsb_coord.proofs.laws.states_are_read.Goals as goal

pub returns-clause-read : goal.returns-clause-read
returns-clause-read c = pattern_read

pub returns-clause-by : goal.returns-clause-by
returns-clause-by c = pattern_by
