use Rattle.tsb_live_text.proofs.saved.TakenLemmas.{ends-alike}
use Rattle.tsb_live_text.proofs.saved.laws.saved_runs_end_alike.Goals as goal

pub returns : goal.returns
returns c = ends-alike
