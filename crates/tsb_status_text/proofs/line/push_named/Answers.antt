use Rattle.std.proofs.Common.{arith}
use Rattle.tsb_lines.proofs.RoomLemmas.{at-most, then}
use Rattle.tsb_status_text.proofs.RoomLemmas.{part}
use Rattle.tsb_status_text.proofs.line.push_named.Goals as goal

pub returns : goal.returns
returns c =
    at-most (omega arith)
    (then (part c.push.ensures.line)
    (then (part c.push-2.ensures.line)
    (then (part c.push-3.ensures.line)
    (part c.push-4.ensures.line))))
