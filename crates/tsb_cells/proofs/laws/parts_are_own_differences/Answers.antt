use Rattle.tsb_cells.proofs.PartLemmas.{parts_are_own}
use Rattle.tsb_cells.proofs.laws.parts_are_own_differences.Goals as goal

pub returns : goal.returns
returns c = parts_are_own
