-- The bytes that a reader keeps of a line.
use Rattle.std.proofs.Common.{◌≡◌, ℕ, ◌+◌, ◌≤◌, min, List, [], ◌∷◌, ◌++◌, length, zero, suc, take, take_all, sym, ap, ◌∙◌, arith, inl, inr}
use Rattle.std.proofs.lemmas.Bool.{cases_lt}
use Rattle.std.proofs.lemmas.List.{length-take-le, take-append-le, take-take, take_min}
use Rattle.tsb_lines.specs.Lines.{HasNoFeed, kept}

-- more of a line is more of what is kept
pub kept-more : (most : ℕ) (line more : List ℕ) → kept most (kept most line ++ more) ≡ kept most (line ++ more)
kept-more most line more = elim (cases_lt (length line) most) [
  | inl less ↦ ap (λ (v : List ℕ). kept most (v ++ more)) (take_all most line (omega (arith, less)))
  | inr long ↦
      let full : length (take most line) ≡ most = length-take-le most line long in
      take-append-le most (take most line) more (omega (arith, full)) ∙ take-take most most line (omega arith) ∙ sym (take-append-le most line more long)
]

-- of what comes behind what is kept as much is kept as there is room for
pub kept-onto : (most room : ℕ) (held more : List ℕ) → room + length held ≡ most → held ++ take (min room (length more)) more ≡ kept most (held ++ more)
kept-onto most room [] more all = take_min room more ∙ ap (λ (n : ℕ). take n more) (omega (arith, all))
kept-onto zero room (b ∷ held) more all = absurd (omega (arith, all))
kept-onto (suc most) room (b ∷ held) more all = ap (λ (v : List ℕ). b ∷ v) (kept-onto most room held more (omega (arith, all)))

-- where all longer lines come to the same, what is kept of a line comes to what the line does
pub kept-tells : {A : Type 0} → (f : List ℕ → A) (most : ℕ) (same : A) → ((line : List ℕ) → most ≤ length line → f line ≡ same) → (line : List ℕ) → f (kept most line) ≡ f line
kept-tells f most same long line = elim (cases_lt (length line) most) [
  | inl less ↦ ap f (take_all most line (omega (arith, less)))
  | inr le ↦ let full : length (take most line) ≡ most = length-take-le most line le in long (take most line) (omega (arith, full)) ∙ sym (long line le)
]

-- what is kept of a line has no line feed
pub feedless-kept : (most : ℕ) (line : List ℕ) → HasNoFeed line → HasNoFeed (kept most line)
feedless-kept zero line f = tt
feedless-kept (suc most) [] f = tt
feedless-kept (suc most) (b ∷ line) f = (f.0, feedless-kept most line f.1)
