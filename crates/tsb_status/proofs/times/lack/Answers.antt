use Rattle.std.proofs.Common.{rules}
use Rattle.tsb_status.proofs.times.lack.Goals as goal

pub returns-in-DontWalk : goal.returns-in-DontWalk
returns-in-DontWalk c = search rules fits 100
