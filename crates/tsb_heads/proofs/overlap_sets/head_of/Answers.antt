use Rattle.std.proofs.Common.{rules}
use Rattle.tsb_heads.proofs.overlap_sets.head_of.Goals as goal

pub returns-else-contains-clause-head : goal.returns-else-contains-clause-head
returns-else-contains-clause-head c = search rules fits 100
