use Rattle.std.proofs.Common.{◌≡◌, ◌∙◌, ◌≤◌, List, ℕ, arith, codes, decimal, length, subst}
use Rattle.tsb_lines.proofs.ShortLemmas.{all-of, said, then}
use Rattle.tsb_plan_notes.specs.Places.{end_text, wanted_text}
use Rattle.tsb_plan_notes.proofs.PieceLemmas.{six-long}
use Rattle.tsb_plan_notes.proofs.place.place_text.Goals as goal

-- a text is as short as bytes that are the same
short-as : (most : ℕ) (bytes text : List ℕ) → bytes ≡ text → length bytes ≤ most → length text ≤ most
short-as most bytes text same short = subst (λ (ts : List ℕ). length ts ≤ most) same short

pub returns : goal.returns
returns c =
    let place = c.args.place in
    let line : length (decimal place.line) ≤ 20 = short-as 20 _ _ c.format.ensures.text c.format.ensures.fits in
    let column : length (decimal place.column) ≤ 20 = short-as 20 _ _ c.format-2.ensures.text c.format-2.ensures.fits in
    let end : length (end_text place.ends) ≤ 32 = short-as 32 _ _ c.end_text.ensures.text c.end_text.ensures.short in
    let wanted : length (wanted_text place.next) ≤ 32 = short-as 32 _ _ c.wanted_text.ensures.text c.wanted_text.ensures.short in
    let all = six-long (codes "line ") (decimal place.line) (codes ", column ") (decimal place.column) (end_text place.ends) (wanted_text place.next) in
    all-of c.new-text.ensures (omega (arith, all, line, column, end, wanted))
    (then c.push.ensures.line
    (then (said (c.as_bytes.ensures.value ∙ c.format.ensures.text) c.push-2.ensures.line)
    (then c.push-3.ensures.line
    (then (said (c.as_bytes-2.ensures.value ∙ c.format-2.ensures.text) c.push-4.ensures.line)
    (then (said c.end_text.ensures.text c.push-5.ensures.line)
    (said c.wanted_text.ensures.text c.push-6.ensures.line))))))
