use Rattle.tsb_detect.proofs.StateLemmas.{same-after, ticks-all}
use Rattle.tsb_detect.proofs.laws.looks_only_at_its_own.Goals as goal

pub returns-clause-same : goal.returns-clause-same
returns-clause-same c = same-after

pub returns-clause-all : goal.returns-clause-all
returns-clause-all c = ticks-all
