use Rattle.std.proofs.Common.{arith}
use Rattle.tsb_lines.proofs.RoomLemmas.{at-most, then}
use Rattle.tsb_status_text.proofs.RoomLemmas.{number-as, part}
use Rattle.tsb_status_text.proofs.waits.push_preempt.Goals as goal

pub returns : goal.returns
returns c =
    at-most (omega (arith, c.push_byte.ensures.short))
    (then (part c.push.ensures.line)
    (then (number-as c.number.result c.args.preempt c.number.ensures.same c.push_byte.ensures.line)
    (part c.push-2.ensures.line)))
