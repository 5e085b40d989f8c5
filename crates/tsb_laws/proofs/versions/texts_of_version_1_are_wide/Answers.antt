use Rattle.tsb_laws.proofs.versions.TextLemmas.{named-narrow, named-said, named-right, goes-alike}
use Rattle.tsb_laws.proofs.versions.texts_of_version_1_are_wide.Goals as goal

pub returns-clause-narrow : goal.returns-clause-narrow
returns-clause-narrow c = named-narrow

pub returns-clause-wide : goal.returns-clause-wide
returns-clause-wide c = named-said

pub returns-clause-rules : goal.returns-clause-rules
returns-clause-rules c = named-right

pub returns-clause-alike : goal.returns-clause-alike
returns-clause-alike c = goes-alike
