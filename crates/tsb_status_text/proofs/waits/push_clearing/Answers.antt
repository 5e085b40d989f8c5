use Rattle.std.proofs.Common.{arith}
use Rattle.tsb_lines.proofs.RoomLemmas.{at-most, then}
use Rattle.tsb_status_text.proofs.waits.push_clearing.Goals as goal

pub returns : goal.returns
returns c =
    at-most (omega arith)
    (then c.push_of.ensures
    c.push_left.ensures)
