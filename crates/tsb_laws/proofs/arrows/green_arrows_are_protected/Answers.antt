use Rattle.tsb_step.specs.Runs.{replay}
use Rattle.tsb_step.proofs.BackedLemmas.{backed_run}
use Rattle.tsb_step.proofs.GoodLemmas.{good_run}
use Rattle.tsb_laws.proofs.arrows.ArrowRunLemmas.{protected}
use Rattle.tsb_laws.proofs.arrows.green_arrows_are_protected.Goals as goal

pub returns : goal.returns
returns c plan is ok taken = protected (replay plan is) (good_run plan is ok taken) (backed_run plan is ok taken)
