use Rattle.std.proofs.Common.{◌≡◌, ◌+◌, ◌≤◌, ◌++◌, length}
use Rattle.tsb_types.specs.Sets.{has_detector, size_of_detectors}
use Rattle.tsb_types.specs.Events.{told_detectors, detectors_with}
use Rattle.tsb_types.specs.declared.limits.TheConstants.{VEHICLE_DETECTORS}
use Rattle.arrayvec.specs.ArrayVec.{array_vec_len}
use Rattle.tsb_types.proofs.event.tell_detectors.Given as goal

-- the events so far and those of the rest are all; and there is room for the rest
abbrev pub invariant-loop-number : goal.invariant-loop-number
invariant-loop-number g l = record {
  told : l.events.items ++ told_detectors l.tick l.code (has_detector l.rest) ≡ l.fn.events.items ++ told_detectors l.tick l.code (has_detector l.fn.detectors);
  room : array_vec_len l.events + length (detectors_with (has_detector l.rest)) ≤ array_vec_len l.fn.events + VEHICLE_DETECTORS;
}

abbrev pub decreases-loop-number : goal.decreases-loop-number
decreases-loop-number g l = size_of_detectors l.rest
