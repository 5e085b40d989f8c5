use Rattle.std.proofs.Common.{◌≡◌, ℕ, ◌<◌, ◌≤◌, false}
use Rattle.tsb_objects.specs.Checked.{checked_plan}
use Rattle.tsb_overlap.specs.Cells.{overlap_in}
use Rattle.tsb_overlap.specs.Layer.{cells_of}
use Rattle.tsb_overlap.specs.Overlap.{holds}
use Rattle.tsb_overlap.proofs.timed_overlaps.TimedOverlaps.holder.Given as goal

-- no overlap gone over holds the phase
abbrev pub invariant-loop-number : goal.invariant-loop-number
invariant-loop-number l = record {
  from : 1 ≤ l.number;
  none : (q : ℕ) → q < l.number → 1 ≤ q → holds (checked_plan l.plan) l.is_preempted (overlap_in l.now (cells_of l.self)) l.phase q ≡ false;
}
