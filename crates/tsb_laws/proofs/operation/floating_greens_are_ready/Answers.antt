use Rattle.tsb_laws.proofs.operation.pattern.PatternEndLemmas.{floating_is_ready, floating_may_end}
use Rattle.tsb_laws.proofs.operation.floating_greens_are_ready.Goals as goal

pub returns-clause-ready : goal.returns-clause-ready
returns-clause-ready c plan is row p ok few taken dark it floated = floating_is_ready plan is row p ok few taken dark it floated

pub returns-clause-in_time : goal.returns-clause-in_time
returns-clause-in_time c plan base later row p n ok few taken dark waited floated =
    floating_may_end plan base later row p n ok few taken dark waited floated
