use Rattle.tsb_controller.proofs.StillLemmas.{watched-ticks_are, watched-pass}
use Rattle.tsb_controller.proofs.passing.watched_ticks_pass.Goals as goal

pub returns-clause-ticked : goal.returns-clause-ticked
returns-clause-ticked c = watched-ticks_are

pub returns-clause-passed : goal.returns-clause-passed
returns-clause-passed c = watched-pass
