use Rattle.std.proofs.Common.{rules}
use Rattle.tsb_history.proofs.history.History.is_empty.Goals as goal

pub returns : goal.returns
returns c = search rules fits 100
