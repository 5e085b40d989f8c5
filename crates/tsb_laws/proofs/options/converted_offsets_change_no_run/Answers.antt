use Rattle.tsb_laws.proofs.options.OffsetRunLemmas.{runs_same, shows_same, converted_same}
use Rattle.tsb_laws.proofs.options.converted_offsets_change_no_run.Goals as goal

pub returns-clause-runs : goal.returns-clause-runs
returns-clause-runs c = runs_same

pub returns-clause-shows : goal.returns-clause-shows
returns-clause-shows c = shows_same

pub returns-clause-converted : goal.returns-clause-converted
returns-clause-converted c = converted_same
