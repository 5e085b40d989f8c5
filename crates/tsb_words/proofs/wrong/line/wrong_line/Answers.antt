use Rattle.std.proofs.Common.{arith, refl}
use Rattle.tsb_lines.proofs.RoomLemmas.{then}
use Rattle.tsb_lines.proofs.ShortLemmas.{all-of}
use Rattle.tsb_words.proofs.RoomLemmas.{part}
use Rattle.tsb_words.proofs.wrong.line.wrong_line.Goals as goal

pub returns : goal.returns
returns c =
    let both = then c.push_wrong.ensures (part {most = 1} refl (omega arith) c.push.ensures.line) in
    all-of c.new-line.ensures (omega (arith, both.short)) both.line
