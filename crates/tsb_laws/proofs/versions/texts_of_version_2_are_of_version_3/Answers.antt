use Rattle.tsb_laws.proofs.versions.LaterLemmas.{renumbered-same, none-later}
use Rattle.tsb_laws.proofs.versions.SizeLemmas.{of-fewer, goes-as-in-2}
use Rattle.tsb_laws.proofs.versions.texts_of_version_2_are_of_version_3.Goals as goal

pub returns-clause-same : goal.returns-clause-same
returns-clause-same c = renumbered-same

pub returns-clause-none : goal.returns-clause-none
returns-clause-none c = none-later

pub returns-clause-sizes : goal.returns-clause-sizes
returns-clause-sizes c = λ text members plan of e. (of-fewer text members plan of e, goes-as-in-2 text members plan of e)
