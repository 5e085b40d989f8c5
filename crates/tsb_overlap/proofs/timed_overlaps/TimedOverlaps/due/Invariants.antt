use Rattle.std.proofs.Common.{◌≡◌, ℕ, ◌<◌, ◌≤◌, Bool, true, false}
use Rattle.tsb_objects.specs.tsb_types.declared.flow.OverlapLights.{OverlapLights}
use Rattle.tsb_objects.specs.tsb_types.declared.limits.TheConstants.{OVERLAPS}
use Rattle.tsb_objects.specs.tsb_types.Sets.{has_number, size_of_numbers}
use Rattle.tsb_objects.specs.tsb_plan.Parts.{is_timed}
use Rattle.tsb_objects.specs.Checked.{checked_plan}
use Rattle.tsb_overlap.specs.Cells.{part_in}
use Rattle.tsb_overlap.specs.Layer.{cells_of}
use Rattle.tsb_overlap.specs.Parts.{IsStill}
use Rattle.tsb_overlap.proofs.timed_overlaps.TimedOverlaps.due.Given as goal

abbrev pub decreases-loop-number : goal.decreases-loop-number
decreases-loop-number l = size_of_numbers l.rest

-- the overlaps that are not left are still up to then
abbrev pub invariant-loop-number : goal.invariant-loop-number
invariant-loop-number l = record {
  timed : (q : ℕ) → 1 ≤ q → q ≤ OVERLAPS → has_number l.rest q ≡ true → is_timed (checked_plan l.plan) q ≡ true;
  still : (q : ℕ) → 1 ≤ q → q ≤ OVERLAPS → has_number l.rest q ≡ false → is_timed (checked_plan l.plan) q ≡ true →
      (preempted : Bool) (omitted : ℕ → Bool) (lights : OverlapLights) (t : ℕ) → l.now ≤ t → t < l.due →
      IsStill (checked_plan l.plan) preempted omitted lights l.seen q (part_in (cells_of l.self) q) l.now t;
}
