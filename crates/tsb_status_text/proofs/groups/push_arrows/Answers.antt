use Rattle.std.proofs.Common.{arith}
use Rattle.tsb_lines.proofs.RoomLemmas.{at-most, then}
use Rattle.tsb_status_text.proofs.RoomLemmas.{part}
use Rattle.tsb_status_text.proofs.groups.push_arrows.Goals as goal

pub returns-in-None : goal.returns-in-None
returns-in-None c = rw c.in-None.is (at-most (omega arith) (part c.push.ensures.line))

pub returns-in-Some : goal.returns-in-Some
returns-in-Some c = rw c.in-Some.is (at-most (omega arith) (then c.push_overlap_set.ensures (part c.push-in-Some.ensures.line)))
