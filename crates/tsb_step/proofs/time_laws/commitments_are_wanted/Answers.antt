use Rattle.tsb_step.specs.Runs.{replay}
use Rattle.tsb_step.proofs.GiveUpHeadLemmas.{wants_commitments}
use Rattle.tsb_step.proofs.time_laws.commitments_are_wanted.Goals as goal

pub returns : goal.returns
returns c plan is ok taken = λ row. wants_commitments (replay plan is) row
