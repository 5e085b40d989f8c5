use Rattle.std.proofs.Common.{◌≡◌, ◌-◌, ◌+◌, ◌++◌}
use Rattle.tsb_types.specs.declared.limits.TheConstants.{VEHICLE_DETECTORS}
use Rattle.tsb_types.specs.Sets.{has_detector}
use Rattle.tsb_status_text.specs.Json.{values_from, number_in, numbers, following}
use Rattle.tsb_lines.specs.ShortLines.{fitting}
use Rattle.tsb_status_text.specs.declared.line.TheConstants.{LONGEST}
use Rattle.tsb_status_text.proofs.line.push_detector_numbers.Given as goal

-- the numbers so far, and those that are left, are all
abbrev pub invariant-loop-k : goal.invariant-loop-k
invariant-loop-k l =
    fitting LONGEST (l.line ++ following l.first (values_from (number_in (has_detector l.set)) (l.k + 1) (VEHICLE_DETECTORS - l.k)) 93)
    ≡ fitting LONGEST (l.fn.line ++ numbers (has_detector l.set) VEHICLE_DETECTORS)
