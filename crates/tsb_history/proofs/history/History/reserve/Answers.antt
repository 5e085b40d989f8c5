use Rattle.std.proofs.Common.{rules}
use Rattle.tsb_history.proofs.history.History.reserve.Goals as goal

pub returns-clause-wanting : goal.returns-clause-wanting
returns-clause-wanting c = search rules fits 100

pub returns-then-size-capacity-clause-wanting : goal.returns-then-size-capacity-clause-wanting
returns-then-size-capacity-clause-wanting c = search rules fits 100

pub returns-then-size-capacity-clause-ok : goal.returns-then-size-capacity-clause-ok
returns-then-size-capacity-clause-ok c = search rules fits 100
