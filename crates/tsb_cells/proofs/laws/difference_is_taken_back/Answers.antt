use Rattle.tsb_cells.proofs.DiffLemmas.{apply_diff-diff}
use Rattle.tsb_cells.proofs.laws.difference_is_taken_back.Goals as goal

pub returns : goal.returns
returns c = apply_diff-diff
