use Rattle.std.proofs.Common.{arith, refl}
use Rattle.tsb_lines.proofs.RoomLemmas.{at-most, then}
use Rattle.tsb_field_streams.proofs.RoomLemmas.{part}
use Rattle.tsb_field_streams.proofs.fault_lines.push_missing.Goals as goal

pub returns : goal.returns
returns c =
    at-most (omega arith) (then (part {most = 9} c.column_name.ensures.text c.column_name.ensures.short c.push.ensures.line) (part {most = 40} refl (omega arith) c.push-2.ensures.line))
