use Rattle.tsb_cells.proofs.PartLemmas.{diff_from-add}
use Rattle.tsb_cells.proofs.laws.numbering_shifts_entries.Goals as goal

pub returns : goal.returns
returns c = diff_from-add
