use Rattle.tsb_status.proofs.TimesFoundLemmas.{lacks-found, next-found}
use Rattle.tsb_status.proofs.laws.times_are_found.Goals as goal

pub returns-clause-lacks : goal.returns-clause-lacks
returns-clause-lacks c = lacks-found

pub returns-clause-next : goal.returns-clause-next
returns-clause-next c = next-found
