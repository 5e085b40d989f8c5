use Rattle.tsb_laws.proofs.arrows.ArrowRunLemmas.{timed_clears}
use Rattle.tsb_laws.proofs.arrows.timed_overlaps_clear_in_yellow.Goals as goal

pub returns : goal.returns
returns c = timed_clears
