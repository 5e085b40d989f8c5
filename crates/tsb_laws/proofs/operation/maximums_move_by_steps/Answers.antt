use Rattle.tsb_step.proofs.GoodLemmas.{good_run}
use Rattle.tsb_step.specs.Runs.{replay}
use Rattle.tsb_laws.proofs.operation.green.RunningMaximumLemmas.{bounded, moves_by_a_step, others_leave_it}
use Rattle.tsb_laws.proofs.operation.maximums_move_by_steps.Goals as goal

pub returns-clause-bounded : goal.returns-clause-bounded
returns-clause-bounded c plan is ok taken = bounded (replay plan is)

pub returns-clause-steps : goal.returns-clause-steps
returns-clause-steps c plan is ok taken = moves_by_a_step (replay plan is) (good_run plan is ok taken)

pub returns-clause-others : goal.returns-clause-others
returns-clause-others c plan is ok taken = others_leave_it (replay plan is)
