use Rattle.std.proofs.Common.{rules}
use Rattle.tsb_status.proofs.times.walk_left.Goals as goal

pub returns : goal.returns
returns c = search rules fits 100
