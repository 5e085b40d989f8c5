use Rattle.tsb_breaches.proofs.LawLemmas.{first-is, none-where}
use Rattle.tsb_breaches.proofs.laws.breaches_begin_with_the_first_rule.Goals as goal

pub returns : goal.returns
returns c = record { first = first-is; none = none-where }
