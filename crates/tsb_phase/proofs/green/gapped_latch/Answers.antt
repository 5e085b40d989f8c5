use Rattle.std.proofs.Common.{rules}
use Rattle.tsb_phase.proofs.green.gapped_latch.Goals as goal

pub returns-then-has_reached : goal.returns-then-has_reached
returns-then-has_reached c = search rules fits 100

pub returns-else-has_reached : goal.returns-else-has_reached
returns-else-has_reached c = search rules fits 100
