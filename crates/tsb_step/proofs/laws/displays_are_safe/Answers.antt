use Rattle.tsb_step.proofs.GoodLemmas.{good_run}
use Rattle.tsb_step.proofs.BackedLemmas.{backed_run}
use Rattle.tsb_step.proofs.DisplayLemmas.{display_is_safe}
use Rattle.tsb_step.proofs.SafeLemmas.{served_together}
use Rattle.tsb_step.specs.Runs.{replay}
use Rattle.tsb_step.proofs.laws.displays_are_safe.Goals as goal

pub returns-clause-safe : goal.returns-clause-safe
returns-clause-safe c plan is ok taken = display_is_safe (replay plan is) (good_run plan is ok taken) (backed_run plan is ok taken)

pub returns-clause-together : goal.returns-clause-together
returns-clause-together c plan is ok taken = served_together (replay plan is) (good_run plan is ok taken)

pub returns-clause-walks : goal.returns-clause-walks
returns-clause-walks c plan is ok taken = (good_run plan is ok taken).walks
