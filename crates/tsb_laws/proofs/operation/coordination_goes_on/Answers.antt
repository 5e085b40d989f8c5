use Rattle.tsb_laws.proofs.operation.pattern.CoordinatedCallLemmas.{awaited}
use Rattle.tsb_laws.proofs.operation.pattern.CoordinatedInstantLemmas.{instants_come}
use Rattle.tsb_laws.proofs.operation.pattern.CoordinatedRunLemmas.{forced_may_end}
use Rattle.tsb_laws.proofs.operation.barrier.CoordinatedBarrierLemmas.{makes_way_or_kept}
use Rattle.tsb_laws.proofs.operation.coordination_goes_on.Goals as goal

pub returns-clause-awaited : goal.returns-clause-awaited
returns-clause-awaited c plan is row q ok taken phase held dark = awaited plan is row q ok taken phase held dark

pub returns-clause-instants : goal.returns-clause-instants
returns-clause-instants c plan is k p ok taken running stepped on = instants_come plan is k p ok taken running stepped on

pub returns-clause-forced : goal.returns-clause-forced
returns-clause-forced c plan base later row p n ok few taken dark pressed most long = forced_may_end plan base later row p n ok few taken dark pressed most long

pub returns-clause-ends : goal.returns-clause-ends
returns-clause-ends c plan is row r p ok few taken dark quiet full own green fit pressed =
    makes_way_or_kept plan is row r p ok few taken dark quiet full own green fit pressed
