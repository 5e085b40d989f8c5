use Rattle.std.proofs.Common.{arith, refl}
use Rattle.tsb_lines.proofs.RoomLemmas.{at-most, then}
use Rattle.tsb_field_streams.proofs.RoomLemmas.{part}
use Rattle.tsb_field_streams.proofs.fault_lines.push_no_time.Goals as goal

pub returns : goal.returns
returns c =
    at-most (omega arith) (then c.push_field.ensures (then (part {most = 20} refl (omega arith) c.push.ensures.line) (part {most = 21} c.example.ensures.text c.example.ensures.short c.push-2.ensures.line)))
