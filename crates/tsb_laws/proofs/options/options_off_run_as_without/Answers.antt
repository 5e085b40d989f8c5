use Rattle.tsb_laws.proofs.options.AloneLemmas.{all_listed, alone_read}
use Rattle.tsb_laws.proofs.options.PlainRunLemmas.{runs_agree, shows_agree}
use Rattle.tsb_laws.proofs.options.ReadRunLemmas.{reads_none, shows_none}
use Rattle.tsb_laws.proofs.options.options_off_run_as_without.Goals as goal

pub returns-clause-runs : goal.returns-clause-runs
returns-clause-runs c = runs_agree

pub returns-clause-shows : goal.returns-clause-shows
returns-clause-shows c = shows_agree

pub returns-clause-reads : goal.returns-clause-reads
returns-clause-reads c = reads_none

pub returns-clause-hides : goal.returns-clause-hides
returns-clause-hides c = shows_none

pub returns-clause-lists : goal.returns-clause-lists
returns-clause-lists c = all_listed

pub returns-clause-alone : goal.returns-clause-alone
returns-clause-alone c = alone_read
