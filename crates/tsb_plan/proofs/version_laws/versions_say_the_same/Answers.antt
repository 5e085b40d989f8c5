use Rattle.tsb_plan.proofs.NameLemmas.{names-apart}
use Rattle.tsb_plan.proofs.version_laws.versions_say_the_same.Goals as goal

pub returns-clause-names : goal.returns-clause-names
returns-clause-names c = names-apart
