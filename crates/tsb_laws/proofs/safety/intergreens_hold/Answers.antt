use Rattle.tsb_laws.proofs.safety.IntergreenLemmas.{has_cleared}
use Rattle.tsb_laws.proofs.safety.WalkLemmas.{has_walked}
use Rattle.tsb_laws.proofs.safety.intergreens_hold.Goals as goal

pub returns-clause-greens : goal.returns-clause-greens
returns-clause-greens c = has_cleared

pub returns-clause-walks : goal.returns-clause-walks
returns-clause-walks c = has_walked
