use Rattle.tsb_calls.proofs.LookLemmas.{look-alike}
use Rattle.tsb_calls.proofs.NextLemmas.{ticks-give}
use Rattle.tsb_calls.proofs.laws.looks_only_at_its_own.Goals as goal

pub returns-clause-same : goal.returns-clause-same
returns-clause-same c = look-alike

pub returns-clause-all : goal.returns-clause-all
returns-clause-all c = ticks-give
