use Rattle.tsb_step.proofs.BackedLemmas.{all_run}
use Rattle.tsb_step.proofs.GoodLemmas.{good_run}
use Rattle.tsb_step.specs.Runs.{replay}
use Rattle.tsb_laws.proofs.operation.step.CalmLemmas.{calm_run}
use Rattle.tsb_laws.proofs.operation.overlap.OverlapGreenLemmas.{ends_with_a_green, lasts_across, trail_begins_with_a_green}
use Rattle.tsb_laws.proofs.operation.overlaps_last_across_rings.Goals as goal

pub returns-clause-ends : goal.returns-clause-ends
returns-clause-ends c plan is ok taken = ends_with_a_green (replay plan is) (good_run plan is ok taken)

pub returns-clause-trails : goal.returns-clause-trails
returns-clause-trails c plan is ok taken = trail_begins_with_a_green (replay plan is) (all_run plan is ok taken)

pub returns-clause-across : goal.returns-clause-across
returns-clause-across c plan is ok taken = λ o. lasts_across (replay plan is) o (good_run plan is ok taken) (calm_run plan is ok taken)
