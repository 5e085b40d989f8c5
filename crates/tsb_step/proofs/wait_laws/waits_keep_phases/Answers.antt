use Rattle.tsb_step.proofs.GoodLemmas.{good_run}
use Rattle.tsb_step.proofs.WaitKeepLemmas.{kept-next}
use Rattle.tsb_step.specs.Runs.{replay}
use Rattle.tsb_step.proofs.wait_laws.waits_keep_phases.Goals as goal

pub returns : goal.returns
returns c plan is ok taken = kept-next (replay plan is) (good_run plan is ok taken)
