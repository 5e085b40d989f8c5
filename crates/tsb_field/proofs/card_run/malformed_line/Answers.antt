use Rattle.std.proofs.Common.{◌≡◌, ◌+◌, ◌≤◌, ◌++◌, arith, codes, decimal, length, length-append}
use Rattle.tsb_lines.proofs.ShortLemmas.{all-of, then}
use Rattle.tsb_field.proofs.card_run.malformed_line.Goals as goal

pub returns : goal.returns
returns c =
    let behind : length (decimal c.args.line ++ codes ": malformed\n") ≡ length (decimal c.args.line) + 12 = length-append (decimal c.args.line) (codes ": malformed\n") in
    let all : length (codes "card line " ++ (decimal c.args.line ++ codes ": malformed\n")) ≡ 10 + length (decimal c.args.line ++ codes ": malformed\n") =
    length-append (codes "card line ") (decimal c.args.line ++ codes ": malformed\n") in
    let short : length (decimal c.args.line) ≤ 10 = c.push_number.ensures.short in
    all-of c.new-text.ensures (omega (arith, behind, all, short)) (then c.push.ensures.line (then c.push_number.ensures.line c.push-2.ensures.line))
