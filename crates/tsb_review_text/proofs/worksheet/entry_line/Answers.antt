use Rattle.std.proofs.Common.{arith, refl}
use Rattle.tsb_lines.proofs.RoomLemmas.{then}
use Rattle.tsb_lines.proofs.ShortLemmas.{all-of}
use Rattle.tsb_review_text.proofs.RowLemmas.{part}
use Rattle.tsb_review_text.proofs.worksheet.entry_line.Goals as goal

pub returns : goal.returns
returns c =
    let all =
    then (part {most = 8} refl (omega arith) c.push.ensures.line)
    (then (part {most = 10} refl c.push_number.ensures.short c.push_number.ensures.line)
    (then (part {most = 8} refl (omega arith) c.push-2.ensures.line)
    (then c.push_time.ensures
    (then (part {most = 18} refl (omega arith) c.push-3.ensures.line)
    (then c.push_time-2.ensures
    (part {most = 3} refl (omega arith) c.push-4.ensures.line)))))) in
    all-of c.new-line.ensures (omega (arith, all.short)) all.line
