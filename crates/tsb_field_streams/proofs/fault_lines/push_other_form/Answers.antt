use Rattle.std.proofs.Common.{arith, refl}
use Rattle.tsb_lines.proofs.RoomLemmas.{at-most, then}
use Rattle.tsb_field_streams.proofs.RoomLemmas.{part}
use Rattle.tsb_field_streams.proofs.fault_lines.push_other_form.Goals as goal

pub returns : goal.returns
returns c =
    at-most (omega arith) (then c.push_field.ensures (then (part {most = 4} refl (omega arith) c.push.ensures.line) (then c.push_form.ensures (then (part {most = 6} refl (omega arith) c.push-2.ensures.line) (then c.push_form-2.ensures (part {most = 60} refl (omega arith) c.push-3.ensures.line))))))
