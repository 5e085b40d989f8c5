use Rattle.std.proofs.Common.{ap, arith, decimal, refl}
use Rattle.tsb_lines.proofs.RoomLemmas.{at-most, then}
use Rattle.tsb_words.proofs.RoomLemmas.{part}
use Rattle.tsb_words.proofs.wrong.line.push_wire.Goals as goal

pub returns : goal.returns
returns c =
    at-most (omega arith) (then (part {most = 40} c.input_name.ensures.text c.input_name.ensures.short c.push.ensures.line) (then (part {most = 11} refl (omega arith) c.push-2.ensures.line) (part {most = 10} (ap decimal c.most.ensures) c.push_number.ensures.short c.push_number.ensures.line)))
