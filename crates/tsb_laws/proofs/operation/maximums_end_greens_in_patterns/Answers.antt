use Rattle.tsb_laws.proofs.operation.pattern.PatternEndLemmas.{maximum_is_ready, maximum_may_end}
use Rattle.tsb_laws.proofs.operation.maximums_end_greens_in_patterns.Goals as goal

pub returns-clause-ready : goal.returns-clause-ready
returns-clause-ready c plan is row p ok few taken it maxed = maximum_is_ready plan is row p ok few taken it maxed

pub returns-clause-in_time : goal.returns-clause-in_time
returns-clause-in_time c plan base later row p n m ok few taken dark waited acts within =
    maximum_may_end plan base later row p n m ok few taken dark waited acts within
