use Rattle.tsb_laws.proofs.operation.pattern.PatternEndLemmas.{permitted_is_ready, permitted_may_end}
use Rattle.tsb_laws.proofs.operation.permissive_times_let_calls_in.Goals as goal

pub returns-clause-ready : goal.returns-clause-ready
returns-clause-ready c plan is row p ok few taken it span = permitted_is_ready plan is row p ok few taken it span

pub returns-clause-in_time : goal.returns-clause-in_time
returns-clause-in_time c plan base later row p n ok few taken dark waited span =
    permitted_may_end plan base later row p n ok few taken dark waited span
