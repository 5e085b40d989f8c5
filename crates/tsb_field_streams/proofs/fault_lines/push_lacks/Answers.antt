use Rattle.std.proofs.Common.{arith, refl}
use Rattle.tsb_lines.proofs.RoomLemmas.{at-most, then}
use Rattle.tsb_field_streams.proofs.RoomLemmas.{part}
use Rattle.tsb_field_streams.proofs.fault_lines.push_lacks.Goals as goal

pub returns : goal.returns
returns c =
    at-most (omega arith) (then (part {most = 30} refl (omega arith) c.push.ensures.line) (then (part {most = 9} c.column_name.ensures.text c.column_name.ensures.short c.push-2.ensures.line) (then (part {most = 10} refl (omega arith) c.push-3.ensures.line) (part {most = 60} c.names_taken.ensures.text c.names_taken.ensures.short c.push-4.ensures.line))))
