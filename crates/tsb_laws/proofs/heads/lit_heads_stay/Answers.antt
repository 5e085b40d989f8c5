use Rattle.tsb_step.proofs.BackedLemmas.{backed_run}
use Rattle.tsb_step.proofs.GoodLemmas.{good_run}
use Rattle.tsb_step.specs.Runs.{replay}
use Rattle.tsb_laws.proofs.heads.LitLemmas.{keeps_lit_heads}
use Rattle.tsb_laws.proofs.heads.lit_heads_stay.Goals as goal

pub returns : goal.returns
returns c plan is ok taken i = keeps_lit_heads (replay plan is) i (good_run plan is ok taken) (backed_run plan is ok taken)
