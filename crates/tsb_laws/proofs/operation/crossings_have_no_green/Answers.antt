use Rattle.tsb_laws.proofs.operation.step.CalmLemmas.{calm_run}
use Rattle.tsb_laws.proofs.operation.crossings_have_no_green.Goals as goal

pub returns : goal.returns
returns c = calm_run
