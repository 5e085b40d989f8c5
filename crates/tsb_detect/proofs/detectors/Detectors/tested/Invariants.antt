use Rattle.std.proofs.Common.{◌≡◌, ℕ, ◌≤◌, true, false}
use Rattle.tsb_objects.specs.tsb_types.declared.limits.TheConstants.{VEHICLE_DETECTORS}
use Rattle.tsb_objects.specs.Checked.{checked_plan}
use Rattle.tsb_objects.specs.tsb_types.Sets.{has_detector, size_of_detectors}
use Rattle.tsb_detect.specs.Cells.{row_in}
use Rattle.tsb_detect.specs.Rows.{is_tested}
use Rattle.tsb_detect.specs.Layer.{cells_of}
use Rattle.tsb_detect.proofs.detectors.Detectors.tested.Given as goal

abbrev pub decreases-loop-d : goal.decreases-loop-d
decreases-loop-d l = size_of_detectors l.rest

-- each detector that is not to be tested is told
abbrev pub invariant-loop-d : goal.invariant-loop-d
invariant-loop-d l = record {
  done : (e : ℕ) → 1 ≤ e → e ≤ VEHICLE_DETECTORS → has_detector l.rest e ≡ false →
      has_detector l.found e ≡ is_tested l.now (checked_plan l.plan) e (has_detector l.inputs e) (row_in (cells_of l.self) e).change;
  left : (e : ℕ) → has_detector l.rest e ≡ true → has_detector l.found e ≡ false;
}
