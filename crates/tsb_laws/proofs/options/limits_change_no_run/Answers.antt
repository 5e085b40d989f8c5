use Rattle.tsb_laws.proofs.options.RunLemmas.{runs_same, shows_same}
use Rattle.tsb_laws.proofs.options.limits_change_no_run.Goals as goal

pub returns-clause-runs : goal.returns-clause-runs
returns-clause-runs c = runs_same

pub returns-clause-shows : goal.returns-clause-shows
returns-clause-shows c = shows_same
