use Rattle.std.proofs.Common.{arith}
use Rattle.tsb_lines.proofs.RoomLemmas.{at-most, then}
use Rattle.tsb_status_text.proofs.RoomLemmas.{part}
use Rattle.tsb_types.specs.Sets.{has_detector}
use Rattle.tsb_status_text.proofs.ListLemmas.{all-detectors}
use Rattle.tsb_status_text.proofs.groups.push_detector_set.Goals as goal

pub returns : goal.returns
returns c =
    at-most (omega arith)
    (then (part c.push.ensures.line)
    (all-detectors (has_detector c.args.set) c.push_detector_numbers.ensures))
