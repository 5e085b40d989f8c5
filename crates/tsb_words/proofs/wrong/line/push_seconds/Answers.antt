use Rattle.std.proofs.Common.{arith, refl}
use Rattle.tsb_lines.proofs.RoomLemmas.{at-most, then}
use Rattle.tsb_words.proofs.RoomLemmas.{part}
use Rattle.tsb_words.proofs.wrong.line.push_seconds.Goals as goal

pub returns : goal.returns
returns c =
    at-most (omega arith) (then (part {most = 28} refl (omega arith) c.push.ensures.line) (part {most = 10} refl c.push_number.ensures.short c.push_number.ensures.line))
