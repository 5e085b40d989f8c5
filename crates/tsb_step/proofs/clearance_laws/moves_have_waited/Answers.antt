use Rattle.tsb_step.proofs.WaitedLemmas.{ended_has_lasted, cleared_was_over, started_has_reverted}
use Rattle.tsb_step.proofs.clearance_laws.moves_have_waited.Goals as goal

pub returns-clause-ended : goal.returns-clause-ended
returns-clause-ended c = ended_has_lasted

pub returns-clause-cleared : goal.returns-clause-cleared
returns-clause-cleared c = cleared_was_over

pub returns-clause-started : goal.returns-clause-started
returns-clause-started c = started_has_reverted
