use Rattle.std.proofs.Common.{refl}
use Rattle.tsb_heads.proofs.ApartLemmas.{dark-head}
use Rattle.tsb_heads.proofs.laws.untimed_overlaps_go_by_phases.Goals as goal

pub returns-clause-phases : goal.returns-clause-phases
returns-clause-phases c = λ plan s o untimed. rw untimed refl

pub returns-clause-dark : goal.returns-clause-dark
returns-clause-dark c = dark-head
