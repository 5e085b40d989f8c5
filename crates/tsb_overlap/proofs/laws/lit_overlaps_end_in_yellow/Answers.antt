use Rattle.tsb_overlap.proofs.LawLemmas.{ends-in_yellow}
use Rattle.tsb_overlap.proofs.laws.lit_overlaps_end_in_yellow.Goals as goal

pub returns : goal.returns
returns c = ends-in_yellow
