use Rattle.std.proofs.Common.{arith}
use Rattle.tsb_lines.proofs.RoomLemmas.{at-most, then}
use Rattle.tsb_words.proofs.wrong.line.push_value.Goals as goal

pub returns : goal.returns
returns c =
    at-most (omega arith) (then c.push_word.ensures (then c.push_quoted.ensures c.push_taken.ensures))
