use Rattle.std.proofs.Common.{arith}
use Rattle.tsb_lines.proofs.RoomLemmas.{at-most}
use Rattle.tsb_status_text.proofs.RoomLemmas.{number-as, part}
use Rattle.tsb_status_text.proofs.groups.push_owner.Goals as goal

pub returns-in-None : goal.returns-in-None
returns-in-None c = rw c.in-None.is (part c.push.ensures.line)

pub returns-in-Some : goal.returns-in-Some
returns-in-Some c = rw c.in-Some.is (at-most (omega (arith, c.push_byte.ensures.short)) (number-as c.number.result _ c.number.ensures.same c.push_byte.ensures.line))
