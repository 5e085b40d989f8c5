use Rattle.std.proofs.Common.{arith, refl}
use Rattle.tsb_lines.proofs.RoomLemmas.{at-most, then}
use Rattle.tsb_review_text.proofs.RowLemmas.{part}
use Rattle.tsb_review_text.proofs.worksheet.push_time_and_margin.Goals as goal

pub returns : goal.returns
returns c =
    at-most (omega arith) (then (part {most = 23} refl (omega arith) c.push.ensures.line) (then c.push_time.ensures (then (part {most = 11} refl (omega arith) c.push-2.ensures.line) c.push_margin.ensures)))
