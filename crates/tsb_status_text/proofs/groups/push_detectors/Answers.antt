use Rattle.std.proofs.Common.{arith}
use Rattle.tsb_lines.proofs.RoomLemmas.{at-most, then}
use Rattle.tsb_status_text.proofs.RoomLemmas.{part}
use Rattle.tsb_status_text.specs.StatusText.{detectors_text}
use Rattle.tsb_status_text.proofs.groups.push_detectors.Goals as goal

pub returns : goal.returns
unfolding detectors_text
returns c =
    at-most (omega arith)
    (then c.push_detector_set.ensures
    (then c.push_detector_set-2.ensures
    (part c.push.ensures.line)))
