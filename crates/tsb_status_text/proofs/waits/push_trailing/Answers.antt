use Rattle.std.proofs.Common.{arith}
use Rattle.tsb_lines.proofs.RoomLemmas.{at-most, then}
use Rattle.tsb_status_text.proofs.RoomLemmas.{number-as, part, two-digits}
use Rattle.tsb_status_text.proofs.waits.push_trailing.Goals as goal

pub returns : goal.returns
returns c =
    at-most (omega (arith, two-digits c.number.result (omega (arith, c.number.ensures.within))))
    (then c.push_of.ensures
    (then (part c.push.ensures.line)
    (then (number-as c.number.result c.args.overlap c.number.ensures.same c.push_byte.ensures.line)
    c.push_left.ensures)))
