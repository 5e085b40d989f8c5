use Rattle.tsb_cells.proofs.ChangeLemmas.{tells_each_change, ascends}
use Rattle.tsb_cells.proofs.laws.difference_is_what_changed.Goals as goal

pub returns-clause-tells : goal.returns-clause-tells
returns-clause-tells c = tells_each_change

pub returns-clause-ascends : goal.returns-clause-ascends
returns-clause-ascends c = ascends
