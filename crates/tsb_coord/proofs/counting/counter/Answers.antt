use Rattle.std.proofs.Common.{rules}
use Rattle.tsb_coord.proofs.counting.counter.Goals as goal

pub returns-clause-value : goal.returns-clause-value
returns-clause-value c = search rules fits 100
