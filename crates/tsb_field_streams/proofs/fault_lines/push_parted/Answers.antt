use Rattle.std.proofs.Common.{arith, refl}
use Rattle.tsb_lines.proofs.RoomLemmas.{at-most, then}
use Rattle.tsb_field_streams.proofs.RoomLemmas.{part}
use Rattle.tsb_field_streams.proofs.fault_lines.push_parted.Goals as goal

pub returns : goal.returns
returns c =
    at-most (omega arith) (then (part {most = 10} c.separator_name.ensures.text c.separator_name.ensures.short c.push.ensures.line) (then (part {most = 30} refl (omega arith) c.push-2.ensures.line) (then (part {most = 10} c.separator_name-2.ensures.text c.separator_name-2.ensures.short c.push-3.ensures.line) (part {most = 40} refl (omega arith) c.push-4.ensures.line))))
