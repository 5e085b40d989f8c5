use Rattle.tsb_step.specs.Runs.{replay}
use Rattle.tsb_step.proofs.BackedLemmas.{backed_run}
use Rattle.tsb_step.proofs.GoodLemmas.{good_run}
use Rattle.tsb_laws.proofs.arrows.ArrowRunLemmas.{arrow_goes}
use Rattle.tsb_laws.proofs.arrows.arrows_go_with_phases.Goals as goal

pub returns : goal.returns
returns c plan is ok taken = arrow_goes (replay plan is) (good_run plan is ok taken) (backed_run plan is ok taken)
