use Rattle.tsb_step.proofs.GoodLemmas.{good_run}
use Rattle.tsb_laws.proofs.operation.recycle.RecycledRunLemmas.{recycles_calls}
use Rattle.tsb_laws.proofs.operation.recycled_calls_walk.Goals as goal

pub returns : goal.returns
returns c plan is ok taken row p few dark = recycles_calls _ row p (good_run plan is ok taken) few dark
