use Rattle.tsb_step.specs.Runs.{replay}
use Rattle.tsb_step.proofs.BackedLemmas.{backed_run}
use Rattle.tsb_step.proofs.GoodLemmas.{good_run}
use Rattle.tsb_laws.proofs.operation.step.CalmLemmas.{calm_run}
use Rattle.tsb_laws.proofs.arrows.ArrowRunLemmas.{may_flash}
use Rattle.tsb_laws.proofs.arrows.arrows_flash_by_permissions.Goals as goal

pub returns : goal.returns
returns c plan is ok taken = may_flash (replay plan is) (good_run plan is ok taken) (backed_run plan is ok taken) (calm_run plan is ok taken)
