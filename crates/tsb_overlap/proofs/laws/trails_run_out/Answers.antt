use Rattle.tsb_overlap.proofs.LawLemmas.{trail-runs_out, trails-end}
use Rattle.tsb_overlap.proofs.laws.trails_run_out.Goals as goal

pub returns-clause-falls : goal.returns-clause-falls
returns-clause-falls c = trail-runs_out

pub returns-clause-released : goal.returns-clause-released
returns-clause-released c = trails-end
