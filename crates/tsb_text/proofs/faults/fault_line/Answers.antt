use Rattle.std.proofs.Common.{◌∙◌, ◌∷◌, ◌++◌, [], ◌≡◌, ◌≤◌, ℕ, List, arith, codes, decimal, length, length-append, subst}
use Rattle.tsb_lines.proofs.ShortLemmas.{all-of, said, then}
use Rattle.tsb_text.specs.Faults.{fault_words, shown}
use Rattle.tsb_text.proofs.faults.fault_line.Goals as goal

-- a text is as short as bytes that are the same
short-as : (most : ℕ) (bytes text : List ℕ) → bytes ≡ text → length bytes ≤ most → length text ≤ most
short-as most bytes text same short = subst (λ (ts : List ℕ). length ts ≤ most) same short

pub returns : goal.returns
returns c =
    let line = c.args.line.now in
    let fault = c.args.fault in
    let number = decimal c.args.number in
    let few : length (shown line) ≤ 200 = short-as 200 _ _ c.shown.ensures.text c.shown.ensures.short in
    let words : length (fault_words fault) ≤ 63 = short-as 63 _ _ c.fault_words.ensures.words c.fault_words.ensures.short in
    let ended : List ℕ = codes ": " ++ (fault_words fault ++ 10 ∷ []) in
    let rest : List ℕ = codes ": " ++ (shown line ++ ended) in
    all-of c.new-text.ensures
    (omega (arith, few, words, c.requires, c.push_number.ensures.short, length-append c.args.start.now (number ++ rest), length-append number rest, length-append (shown line) ended, length-append (fault_words fault) (10 ∷ [])))
    (then c.push.ensures.line
    (then c.push_number.ensures.line
    (then c.push-2.ensures.line
    (then (said (c.deref.ensures.0 ∙ c.shown.ensures.text) c.push-3.ensures.line)
    (then c.push-4.ensures.line
    (then (said c.fault_words.ensures.words c.push-5.ensures.line)
    c.push-6.ensures.line))))))
