use Rattle.std.proofs.Common.{rules}
use Rattle.tsb_phase.specs.Green.{gap}
use Rattle.tsb_phase.proofs.times.gap.Goals as goal

pub returns-else-to_reduce-eq0 : goal.returns-else-to_reduce-eq0
unfolding gap
returns-else-to_reduce-eq0 c = search rules fits 100
