use Rattle.std.proofs.Common.{◌≡◌, ◌++◌}
use Rattle.tsb_types.specs.Sets.{has_detector, size_of_detectors}
use Rattle.tsb_types.specs.Events.{told_detectors}
use Rattle.tsb_field_display.proofs.inputs.tell_detectors.Given as goal

-- the events so far, and those of the rest, are all
abbrev pub invariant-loop-number : goal.invariant-loop-number
invariant-loop-number l =
    l.events.items ++ told_detectors l.tick l.code (has_detector l.rest) ≡ l.fn.events.items ++ told_detectors l.tick l.code (has_detector l.fn.detectors)

abbrev pub decreases-loop-number : goal.decreases-loop-number
decreases-loop-number l = size_of_detectors l.rest
