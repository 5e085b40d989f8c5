use Rattle.std.proofs.Common.{◌≡◌, ℕ, arith, ap, length, decimal}
use Rattle.std.proofs.lemmas.Fmt.{length-decimal-le}
use Rattle.tsb_lines.proofs.RoomLemmas.{at-most}
use Rattle.tsb_status_text.proofs.RoomLemmas.{number-as, part}
use Rattle.tsb_status_text.proofs.line.push_byte.Goals as goal

pub returns-clause-line : goal.returns-clause-line
returns-clause-line c =
    let same : length (decimal c.from.result) ≡ length (decimal c.args.number) = ap (λ (n : ℕ). length (decimal n)) c.from.ensures in
    at-most (omega (arith, same)) (number-as c.from.result c.args.number c.from.ensures (part c.push_number.ensures.line))

pub returns-clause-short : goal.returns-clause-short
returns-clause-short c = length-decimal-le 3 c.args.number (omega arith) (omega (arith, c.ranges.number)) (omega (arith, c.ranges.number))
