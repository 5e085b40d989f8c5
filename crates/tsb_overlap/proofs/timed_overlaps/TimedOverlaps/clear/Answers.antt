use Rattle.std.proofs.Common.{rules}
use Rattle.tsb_overlap.proofs.timed_overlaps.TimedOverlaps.clear.Goals as goal

pub loop-at-preserved : goal.loop-at-preserved
loop-at-preserved c = search rules fits 100
