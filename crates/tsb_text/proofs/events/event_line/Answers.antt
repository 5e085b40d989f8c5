use Rattle.std.proofs.Common.{◌∷◌, ◌≤◌, ℕ, ap, arith, decimal, length, length-append, subst}
use Rattle.tsb_lines.proofs.ShortLemmas.{all-of, said, then}
use Rattle.tsb_text.proofs.events.event_line.Goals as goal

pub returns : goal.returns
returns c =
    let event = c.args.event.now in
    let code : length (decimal event.code) ≤ 10 = subst (λ (n : ℕ). length (decimal n) ≤ 10) c.from.ensures c.push_number.ensures.short in
    let parameter : length (decimal event.parameter) ≤ 10 = subst (λ (n : ℕ). length (decimal n) ≤ 10) c.from-2.ensures c.push_number-2.ensures.short in
    all-of c.new-line.ensures (omega (arith, code, parameter, length-append (decimal event.code) (32 ∷ decimal event.parameter)))
    (then c.push.ensures.line
    (then (said c.seven_digits.ensures c.push-2.ensures.line)
    (then c.push-3.ensures.line
    (then (said (ap decimal c.from.ensures) c.push_number.ensures.line)
    (then c.push-4.ensures.line
    (said (ap decimal c.from-2.ensures) c.push_number-2.ensures.line))))))
