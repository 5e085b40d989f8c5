use Rattle.tsb_overlap.proofs.OwnLemmas.{settled-same}
use Rattle.tsb_overlap.proofs.OwnLemmas.{held-same}
use Rattle.tsb_overlap.proofs.OwnLemmas.{ticks-as_next}
use Rattle.tsb_overlap.proofs.laws.looks_only_at_its_own.Goals as goal

pub returns-clause-same : goal.returns-clause-same
returns-clause-same c = λ plan one other o x count alike from to. settled-same plan one other count alike o from to x

pub returns-clause-held : goal.returns-clause-held
returns-clause-held c = held-same

pub returns-clause-ticked : goal.returns-clause-ticked
returns-clause-ticked c = ticks-as_next
