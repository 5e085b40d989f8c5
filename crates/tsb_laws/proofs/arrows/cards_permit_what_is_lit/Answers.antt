use Rattle.tsb_step.specs.Runs.{replay}
use Rattle.tsb_step.proofs.BackedLemmas.{backed_run}
use Rattle.tsb_step.proofs.GoodLemmas.{good_run}
use Rattle.tsb_laws.proofs.arrows.CardLemmas.{permits_lit}
use Rattle.tsb_laws.proofs.arrows.cards_permit_what_is_lit.Goals as goal

pub returns : goal.returns
returns c plan is ok taken = permits_lit (replay plan is) (good_run plan is ok taken) (backed_run plan is ok taken)
