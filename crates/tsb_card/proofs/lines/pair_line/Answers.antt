use Rattle.std.proofs.Common.{◌≡◌, ℕ, ◌+◌, ◌≤◌, ◌++◌, ap, arith, codes, decimal, length, length-append, subst}
use Rattle.tsb_lines.proofs.ShortLemmas.{all-of, said, then}
use Rattle.tsb_card.proofs.lines.pair_line.Goals as goal

pub returns : goal.returns
returns c =
    let last : length (decimal c.args.higher ++ codes "\n") ≡ length (decimal c.args.higher) + 1 = length-append (decimal c.args.higher) (codes "\n") in
    let hyphen : length (codes "-" ++ (decimal c.args.higher ++ codes "\n")) ≡ 1 + length (decimal c.args.higher ++ codes "\n") = length-append (codes "-") (decimal c.args.higher ++ codes "\n") in
    let first : length (decimal c.args.lower ++ (codes "-" ++ (decimal c.args.higher ++ codes "\n"))) ≡ length (decimal c.args.lower) + length (codes "-" ++ (decimal c.args.higher ++ codes "\n")) =
    length-append (decimal c.args.lower) (codes "-" ++ (decimal c.args.higher ++ codes "\n")) in
    let all : length (c.args.before.now ++ (decimal c.args.lower ++ (codes "-" ++ (decimal c.args.higher ++ codes "\n")))) ≡ length c.args.before.now + length (decimal c.args.lower ++ (codes "-" ++ (decimal c.args.higher ++ codes "\n"))) =
    length-append c.args.before.now (decimal c.args.lower ++ (codes "-" ++ (decimal c.args.higher ++ codes "\n"))) in
    let short : length (decimal c.args.lower) ≤ 10 = subst (λ (n : ℕ). length (decimal n) ≤ 10) c.from.ensures c.push_number.ensures.short in
    let small : length (decimal c.args.higher) ≤ 10 = subst (λ (n : ℕ). length (decimal n) ≤ 10) c.from-2.ensures c.push_number-2.ensures.short in
    let before : length c.args.before.now ≤ 9 = c.requires in
    all-of c.new-line.ensures (omega (arith, last, hyphen, first, all, short, small, before))
    ((then) c.push.ensures.line ((then) (said (ap decimal c.from.ensures) c.push_number.ensures.line)
    ((then) c.push-2.ensures.line ((then) (said (ap decimal c.from-2.ensures) c.push_number-2.ensures.line) c.push-3.ensures.line))))
