use Rattle.std.proofs.Common.{arith, refl}
use Rattle.tsb_lines.proofs.RoomLemmas.{at-most, then}
use Rattle.tsb_words.proofs.RoomLemmas.{part}
use Rattle.tsb_words.proofs.wrong.line.push_device.Goals as goal

pub returns : goal.returns
returns c =
    at-most (omega arith) (then (part {most = 60} refl (omega arith) c.push.ensures.line) (then (part {most = 10} refl c.push_number.ensures.short c.push_number.ensures.line) (part {most = 6} refl (omega arith) c.push-2.ensures.line)))
