use Rattle.tsb_step.specs.Runs.{replay}
use Rattle.tsb_step.proofs.BackedLemmas.{backed_run}
use Rattle.tsb_step.proofs.GoodLemmas.{good_run}
use Rattle.tsb_laws.proofs.arrows.ArrowRunLemmas.{idle_unlit}
use Rattle.tsb_laws.proofs.arrows.idle_overlaps_are_unlit.Goals as goal

pub returns : goal.returns
returns c plan is ok taken = idle_unlit (replay plan is) (good_run plan is ok taken) (backed_run plan is ok taken)
