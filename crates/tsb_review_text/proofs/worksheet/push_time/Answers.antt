use Rattle.std.proofs.Common.{arith, refl}
use Rattle.tsb_lines.proofs.RoomLemmas.{at-most, then}
use Rattle.tsb_review_text.proofs.RowLemmas.{part}
use Rattle.tsb_review_text.proofs.worksheet.push_time.Goals as goal

pub returns : goal.returns
returns c =
    at-most (omega arith) (then (part {most = 10} refl c.push_number.ensures.short c.push_number.ensures.line) (then (part {most = 1} refl (omega arith) c.push.ensures.line) (part {most = 10} refl c.push_number-2.ensures.short c.push_number-2.ensures.line)))
