use Rattle.tsb_step.proofs.GoodLemmas.{good_run}
use Rattle.tsb_step.proofs.SafeLemmas.{starts_waiting}
use Rattle.tsb_step.specs.Runs.{replay}
use Rattle.tsb_step.proofs.laws.starts_wait.Goals as goal

pub returns : goal.returns
returns c plan is ok taken = starts_waiting (replay plan is) (good_run plan is ok taken)
