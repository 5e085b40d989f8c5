use Rattle.tsb_step.proofs.GoodLemmas.{good_run}
use Rattle.tsb_step.proofs.laws.plans_stay_consistent.Goals as goal

pub returns : goal.returns
returns c plan is ok taken = (good_run plan is ok taken).plan
