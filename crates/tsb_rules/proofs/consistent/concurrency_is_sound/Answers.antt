use Rattle.tsb_rules.proofs.ConsistentLemmas.{placed, together}
use Rattle.tsb_rules.proofs.consistent.concurrency_is_sound.Goals as goal

pub returns-clause-placed : goal.returns-clause-placed
returns-clause-placed c = placed

pub returns-clause-together : goal.returns-clause-together
returns-clause-together c = together
