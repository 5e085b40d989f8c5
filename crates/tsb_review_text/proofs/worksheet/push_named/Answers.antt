use Rattle.std.proofs.Common.{arith, refl}
use Rattle.tsb_lines.proofs.RoomLemmas.{at-most, then}
use Rattle.tsb_review_text.proofs.RowLemmas.{part}
use Rattle.tsb_review_text.proofs.worksheet.push_named.Goals as goal

pub returns : goal.returns
returns c = at-most (omega arith) (then (part {most = 17} refl c.requires c.push.ensures.line) c.push_time.ensures)
