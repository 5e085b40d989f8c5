use Rattle.std.proofs.Common.{◌≡◌, ℕ, ◌≤◌, true, false}
use Rattle.tsb_objects.specs.tsb_types.declared.limits.TheConstants.{VEHICLE_DETECTORS}
use Rattle.tsb_objects.specs.tsb_plan.PlanOf.{plan_of}
use Rattle.tsb_objects.specs.tsb_plan.Parts.{call_phase}
use Rattle.tsb_objects.specs.tsb_types.Sets.{has_detector, size_of_detectors}
use Rattle.tsb_detect.specs.Promises.{green_timer_of}
use Rattle.tsb_detect.specs.Cells.{row_in}
use Rattle.tsb_detect.specs.Rows.{row_with, IsVisit, HasNoAlarm}
use Rattle.tsb_detect.specs.Layer.{cells_of, kept_of, is_open, KeepsLists}
use Rattle.tsb_detect.proofs.detectors.Detectors.visit_moved.Given as goal

abbrev pub decreases-loop-d : goal.decreases-loop-d
decreases-loop-d l = size_of_detectors l.rest

-- of each detector that is not to be visited cells and output are as the tick makes them, and the others as they were
abbrev pub invariant-loop-d : goal.invariant-loop-d
invariant-loop-d l = record {
  done : (e : ℕ) → 1 ≤ e → e ≤ VEHICLE_DETECTORS → has_detector l.rest e ≡ false →
      IsVisit l.now (plan_of l.plan) e (has_detector l.inputs e) (green_timer_of l.now l.greens (call_phase (plan_of l.plan) e)) (row_in (cells_of l.initial.self) e)
      (row_with (has_detector l.inputs e) (has_detector l.on e) (row_in (cells_of l.initial.self) e) (row_in (cells_of l.self) e));
  left : (e : ℕ) → 1 ≤ e → e ≤ VEHICLE_DETECTORS → has_detector l.rest e ≡ true → row_in (cells_of l.self) e ≡ row_in (cells_of l.initial.self) e;
  off : (e : ℕ) → has_detector l.rest e ≡ true → has_detector l.on e ≡ false;
  none : (e : ℕ) → 1 ≤ e → e ≤ VEHICLE_DETECTORS → HasNoAlarm (row_in (cells_of l.self) e);
  lists : KeepsLists (cells_of l.initial.self) (cells_of l.self);
  kept : kept_of l.self ≡ kept_of l.initial.self;
  opened : is_open l.self ≡ true;
}
