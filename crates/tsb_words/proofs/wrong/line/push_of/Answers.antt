use Rattle.std.proofs.Common.{arith, refl}
use Rattle.tsb_lines.proofs.RoomLemmas.{at-most, then}
use Rattle.tsb_words.proofs.RoomLemmas.{part}
use Rattle.tsb_words.proofs.wrong.line.push_of.Goals as goal

pub returns : goal.returns
returns c =
    at-most (omega arith) (then c.push_word.ensures (part {most = 70} refl c.requires c.push.ensures.line))
