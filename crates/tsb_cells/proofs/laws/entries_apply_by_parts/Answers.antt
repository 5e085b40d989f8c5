use Rattle.tsb_cells.proofs.PartLemmas.{apply_diff-append}
use Rattle.tsb_cells.proofs.laws.entries_apply_by_parts.Goals as goal

pub returns : goal.returns
returns c = apply_diff-append
