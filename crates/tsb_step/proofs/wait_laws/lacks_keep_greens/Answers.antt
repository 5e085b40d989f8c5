use Rattle.tsb_step.proofs.WaitLackLemmas.{lacks-keep, greens-keep, keepers-keep}
use Rattle.tsb_step.proofs.wait_laws.lacks_keep_greens.Goals as goal

pub returns-clause-greens : goal.returns-clause-greens
returns-clause-greens c = lacks-keep

pub returns-clause-rings : goal.returns-clause-rings
returns-clause-rings c = greens-keep

pub returns-clause-barrier : goal.returns-clause-barrier
returns-clause-barrier c = keepers-keep
