use Rattle.std.proofs.Common.{arith, refl}
use Rattle.tsb_lines.proofs.RoomLemmas.{then}
use Rattle.tsb_lines.proofs.ShortLemmas.{all-of}
use Rattle.tsb_review_text.proofs.RowLemmas.{part}
use Rattle.tsb_review_text.proofs.worksheet.share_line.Goals as goal

pub returns : goal.returns
returns c =
    let all =
    then (part {most = 8} refl (omega arith) c.push.ensures.line)
    (then (part {most = 10} refl c.push_number.ensures.short c.push_number.ensures.line)
    (then (part {most = 8} refl (omega arith) c.push-2.ensures.line)
    (then (part {most = 10} refl c.push_number-2.ensures.short c.push_number-2.ensures.line)
    (then (part {most = 8} refl (omega arith) c.push-3.ensures.line)
    (then c.push_time.ensures
    (then (part {most = 10} refl (omega arith) c.push-4.ensures.line)
    (then c.push_time-2.ensures
    (then c.push_force_off.ensures
    (then c.push_crossing.ensures
    (part {most = 3} refl (omega arith) c.push-5.ensures.line)))))))))) in
    all-of c.new-line.ensures (omega (arith, all.short)) all.line
