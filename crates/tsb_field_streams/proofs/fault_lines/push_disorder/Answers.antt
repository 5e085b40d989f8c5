use Rattle.std.proofs.Common.{arith, refl}
use Rattle.tsb_lines.proofs.RoomLemmas.{at-most, then}
use Rattle.tsb_field_streams.proofs.RoomLemmas.{part}
use Rattle.tsb_field_streams.proofs.fault_lines.push_disorder.Goals as goal

pub returns : goal.returns
returns c =
    at-most (omega arith) (then c.push_number.ensures (then (part {most = 20} refl (omega arith) c.push.ensures.line) (then c.push_clock.ensures (then (part {most = 10} refl (omega arith) c.push-2.ensures.line) (then c.push_clock-2.ensures (then (part {most = 15} c.day_between.ensures.text c.day_between.ensures.short c.push-3.ensures.line) c.push_cure.ensures))))))
