use Rattle.std.proofs.Common.{arith, refl}
use Rattle.tsb_lines.proofs.RoomLemmas.{at-most, then}
use Rattle.tsb_field_streams.proofs.RoomLemmas.{part}
use Rattle.tsb_field_streams.proofs.fault_lines.push_no_row.Goals as goal

pub returns : goal.returns
returns c =
    at-most (omega arith) (then c.push_number.ensures (then (part {most = 2} refl (omega arith) c.push.ensures.line) c.push_why.ensures))
