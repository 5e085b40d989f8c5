use Rattle.std.proofs.Common.{arith}
use Rattle.tsb_lines.proofs.RoomLemmas.{at-most, then}
use Rattle.tsb_status_text.proofs.RoomLemmas.{part}
use Rattle.tsb_status_text.proofs.waits.push_left.Goals as goal

pub returns : goal.returns
returns c =
    at-most (omega (arith, c.push_number.ensures.short))
    (then (part c.push.ensures.line)
    (then (part c.push_number.ensures.line)
    (part c.push-2.ensures.line)))
