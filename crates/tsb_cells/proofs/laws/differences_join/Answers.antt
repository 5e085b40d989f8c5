use Rattle.tsb_cells.proofs.PartLemmas.{diff-append}
use Rattle.tsb_cells.proofs.laws.differences_join.Goals as goal

pub returns : goal.returns
returns c = diff-append
