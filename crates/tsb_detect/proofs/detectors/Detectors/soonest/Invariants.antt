use Rattle.std.proofs.Common.{◌≡◌, ℕ, ◌+◌, ◌-◌, ◌%◌, ◌<◌, ◌≤◌, false}
use Rattle.tsb_objects.specs.tsb_types.declared.limits.TheConstants.{VEHICLE_DETECTORS}
use Rattle.tsb_objects.specs.Checked.{checked_plan}
use Rattle.tsb_objects.specs.tsb_types.Sets.{has_detector, size_of_detectors}
use Rattle.tsb_detect.specs.Cells.{row_in}
use Rattle.tsb_detect.specs.Rows.{is_tested}
use Rattle.tsb_detect.specs.Layer.{cells_of}
use Rattle.tsb_detect.proofs.detectors.Detectors.soonest.Given as goal

abbrev pub decreases-loop-d : goal.decreases-loop-d
decreases-loop-d l = size_of_detectors l.rest

-- nothing is tested before the soonest, of the detectors that were gone over
abbrev pub invariant-loop-d : goal.invariant-loop-d
invariant-loop-d l = record {
  later : 1 ≤ l.soonest;
  within : l.soonest ≤ 600 - l.now % 600;
  quiet : (t d : ℕ) → l.now < t → t < l.now + l.soonest → 1 ≤ d → d ≤ VEHICLE_DETECTORS → has_detector l.rest d ≡ false →
      is_tested t (checked_plan l.plan) d (has_detector l.inputs d) (row_in (cells_of l.self) d).change ≡ false;
}
