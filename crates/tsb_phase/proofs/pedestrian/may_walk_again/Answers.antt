use Rattle.std.proofs.Common.{rules}
use Rattle.tsb_phase.proofs.pedestrian.may_walk_again.Goals as goal

pub returns-after-was : goal.returns-after-was
returns-after-was c = search rules fits 100
