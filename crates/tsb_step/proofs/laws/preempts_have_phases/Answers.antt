use Rattle.tsb_step.proofs.GoodLemmas.{good_run}
use Rattle.tsb_step.proofs.SafeLemmas.{serves_preempt}
use Rattle.tsb_step.specs.Runs.{replay}
use Rattle.tsb_step.proofs.laws.preempts_have_phases.Goals as goal

pub returns : goal.returns
returns c plan is ok taken = serves_preempt (replay plan is) (good_run plan is ok taken)
