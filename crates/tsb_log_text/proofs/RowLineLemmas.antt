-- The marks of inputs in a line.
use Rattle.std.proofs.Common.{◌≡◌, ℕ, ◌<◌, Bool, zero, suc, List, [], ◌∷◌, length, get_or, refl, ap, ◌∙◌, arith}
use Rattle.tsb_log_text.specs.LogText.{mark, marks}

-- each mark is in its place
pub marks-placed : (n : ℕ) (on : ℕ → Bool) (all : List ℕ) → length all ≡ n → ((j : ℕ) → j < n → get_or all j 0 ≡ mark (on j)) → all ≡ marks n on
marks-placed zero on [] full placed = refl
marks-placed zero on (x ∷ xs) full placed = absurd (omega (arith, full))
marks-placed (suc n) on [] full placed = absurd (omega (arith, full))
marks-placed (suc n) on (x ∷ xs) full placed =
    ap (λ (b : ℕ). b ∷ xs) (placed 0 (omega arith))
    ∙ ap (λ (rest : List ℕ). mark (on 0) ∷ rest) (marks-placed n (λ k. on (suc k)) xs (omega (arith, full)) (λ j lt. placed (suc j) (omega (arith, lt))))
