use Rattle.std.proofs.Common.{arith, refl}
use Rattle.tsb_lines.proofs.RoomLemmas.{at-most, then}
use Rattle.tsb_words.proofs.RoomLemmas.{part}
use Rattle.tsb_words.proofs.wrong.line.push_no_command.Goals as goal

pub returns : goal.returns
returns c =
    at-most (omega arith) (then (part {most = 21} refl (omega arith) c.push.ensures.line) (then c.push_word.ensures (part {most = 68} refl (omega arith) c.push-2.ensures.line)))
