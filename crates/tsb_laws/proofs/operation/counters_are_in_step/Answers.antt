use Rattle.tsb_step.specs.Runs.{replay}
use Rattle.tsb_laws.proofs.operation.pattern.ComingLemmas.{come_into_step}
use Rattle.tsb_laws.proofs.operation.pattern.SelectionLemmas.{selected_in_step, once_so}
use Rattle.tsb_laws.proofs.operation.counters_are_in_step.Goals as goal

pub returns-clause-selected : goal.returns-clause-selected
returns-clause-selected c = selected_in_step

pub returns-clause-stays : goal.returns-clause-stays
returns-clause-stays c plan is ok taken = once_so (replay plan is)

pub returns-clause-comes : goal.returns-clause-comes
returns-clause-comes c = come_into_step
