use Rattle.tsb_laws.proofs.one_text.LiveLemmas.{lines-one, runs-one}
use Rattle.tsb_laws.proofs.one_text.live_runs_write_one_text.Goals as goal

pub returns-clause-lines : goal.returns-clause-lines
returns-clause-lines c = lines-one

pub returns-clause-runs : goal.returns-clause-runs
returns-clause-runs c = runs-one
