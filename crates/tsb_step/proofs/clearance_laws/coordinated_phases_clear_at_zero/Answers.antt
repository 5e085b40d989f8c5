use Rattle.tsb_step.proofs.ClearLemmas.{clears_at_zero, clears_with_its_split}
use Rattle.tsb_step.proofs.GoodLemmas.{good_run}
use Rattle.tsb_step.specs.Runs.{replay}
use Rattle.tsb_step.proofs.clearance_laws.coordinated_phases_clear_at_zero.Goals as goal

pub returns-clause-zero : goal.returns-clause-zero
returns-clause-zero c plan is ok taken rows n p off counted ends = clears_at_zero (replay plan is) rows n p (good_run plan is ok taken) off counted ends

pub returns-clause-splits : goal.returns-clause-splits
returns-clause-splits c plan is ok taken rows n p q off counted ends =
    clears_with_its_split (replay plan is) rows n p q (good_run plan is ok taken) off counted ends
