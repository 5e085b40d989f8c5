use Rattle.std.proofs.Common.{rules}
use Rattle.tsb_heads.proofs.monitor.right_of_way.Goals as goal

pub returns : goal.returns
returns c = search rules fits 100
