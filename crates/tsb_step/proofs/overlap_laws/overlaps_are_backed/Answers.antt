use Rattle.tsb_step.proofs.BackedLemmas.{backed_run}
use Rattle.tsb_step.proofs.overlap_laws.overlaps_are_backed.Goals as goal

pub returns : goal.returns
returns c plan is ok taken = backed_run plan is ok taken
