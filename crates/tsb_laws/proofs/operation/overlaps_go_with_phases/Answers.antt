use Rattle.tsb_step.proofs.BackedLemmas.{backed_run}
use Rattle.tsb_step.proofs.GoodLemmas.{good_run}
use Rattle.tsb_step.specs.Runs.{replay}
use Rattle.tsb_laws.proofs.operation.overlap.OverlapPhaseLemmas.{goes_with_phases}
use Rattle.tsb_laws.proofs.operation.overlaps_go_with_phases.Goals as goal

pub returns : goal.returns
returns c plan is ok taken = goes_with_phases (replay plan is) (good_run plan is ok taken) (backed_run plan is ok taken)
