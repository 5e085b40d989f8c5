use Rattle.std.proofs.Common.{◌≡◌, ◌∙◌, ◌++◌, ◌≤◌, ◌+◌, ℕ, List, ap, arith, codes, length, take}
use Rattle.tsb_words.proofs.near.hint.Goals as goal

pub returns : goal.returns
returns c =
    let zero : length c.new-line.result ≡ 0 = ap length c.new-line.ensures in
    let first : length c.new-line.result + length (codes "did you mean ") ≤ 80 = omega (arith, zero) in
    let one : length c.push.new.self ≡ length c.new-line.result + length (codes "did you mean ") = c.push.ensures.len first in
    let second : length c.push.new.self + length c.shown.result.now ≤ 80 = omega (arith, zero, one, c.shown.ensures.short) in
    let two : length c.push-2.new.self ≡ length c.push.new.self + length c.shown.result.now = c.push-2.ensures.len second in
    let third : length c.push-2.new.self + length (codes "? --help lists the words\n") ≤ 80 = omega (arith, zero, one, two, c.shown.ensures.short) in
    let shown = c.shown.ensures.text ∙ ap (take 40) c.as_bytes.ensures.value in
    c.push-3.ensures.whole third
    ∙ ap (λ (v : List ℕ). v ++ codes "? --help lists the words\n")
    (c.push-2.ensures.whole second
    ∙ ap (λ (v : List ℕ). v ++ c.shown.result.now) (c.push.ensures.whole first ∙ ap (λ (v : List ℕ). v ++ codes "did you mean ") c.new-line.ensures)
    ∙ ap (λ (v : List ℕ). codes "did you mean " ++ v) shown)
