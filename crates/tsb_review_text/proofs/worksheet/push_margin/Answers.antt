use Rattle.std.proofs.Common.{arith, refl}
use Rattle.std.proofs.lemmas.Bool.{lt-leb}
use Rattle.tsb_lines.proofs.RoomLemmas.{at-most, then}
use Rattle.tsb_review_text.proofs.RowLemmas.{part}
use Rattle.tsb_review_text.proofs.worksheet.push_margin.Goals as goal

pub returns-else-time-green : goal.returns-else-time-green
returns-else-time-green c =
    rw (lt-leb c.args.time c.args.green (omega (arith, c.if-time-green.false)))
    (at-most (omega arith) (then (part {most = 1} refl (omega arith) c.push.ensures.line) c.push_time-else-time-green.ensures))
