use Rattle.tsb_step.specs.Runs.{replay}
use Rattle.tsb_step.proofs.GiveUpHeadLemmas.{shows_the_same}
use Rattle.tsb_step.proofs.time_laws.giving_up_shows_nothing.Goals as goal

pub returns : goal.returns
returns c plan is ok taken = λ row. shows_the_same (replay plan is) row
