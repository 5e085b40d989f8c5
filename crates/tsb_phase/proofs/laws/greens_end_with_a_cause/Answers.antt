use Rattle.tsb_phase.proofs.CauseLemmas.{cause-may-end, ready-has-cause}
use Rattle.tsb_phase.proofs.laws.greens_end_with_a_cause.Goals as goal

pub returns-clause-may_end : goal.returns-clause-may_end
returns-clause-may_end c = cause-may-end

pub returns-clause-ready : goal.returns-clause-ready
returns-clause-ready c = ready-has-cause
