use Rattle.tsb_laws.proofs.operation.pattern.LateGreenLemmas.{late_is_ready, late_may_end}
use Rattle.tsb_laws.proofs.operation.late_greens_are_ready.Goals as goal

pub returns-clause-ready : goal.returns-clause-ready
returns-clause-ready c plan is row p ok few taken it = late_is_ready plan is row p ok few taken it

pub returns-clause-in_time : goal.returns-clause-in_time
returns-clause-in_time c plan base later row p n ok few taken dark pressed span initial walks long =
    late_may_end plan base later row p n ok few taken dark pressed span initial walks long
