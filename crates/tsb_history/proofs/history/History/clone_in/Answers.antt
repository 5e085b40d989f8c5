use Rattle.std.proofs.Common.{rules}
use Rattle.tsb_history.proofs.history.History.clone_in.Goals as goal

pub invariant_of-result : goal.invariant_of-result
invariant_of-result c = search rules fits 100

pub returns : goal.returns
returns c = search rules fits 100
