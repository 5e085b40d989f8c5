use Rattle.tsb_step.proofs.ClearLemmas.{clears_in_time}
use Rattle.tsb_step.proofs.GoodLemmas.{good_run}
use Rattle.tsb_step.specs.Runs.{replay}
use Rattle.tsb_step.proofs.clearance_laws.greens_clear_in_time.Goals as goal

pub returns : goal.returns
returns c plan is ok taken rows p ends = clears_in_time (replay plan is) rows p (good_run plan is ok taken) ends
