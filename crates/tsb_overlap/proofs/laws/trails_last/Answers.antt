use Rattle.tsb_overlap.proofs.LawLemmas.{trails-last}
use Rattle.tsb_overlap.proofs.LawLemmas.{clearances-last}
use Rattle.tsb_overlap.proofs.laws.trails_last.Goals as goal

pub returns-clause-green : goal.returns-clause-green
returns-clause-green c = trails-last

pub returns-clause-red : goal.returns-clause-red
returns-clause-red c = clearances-last
