-- Spaces at the end of a text.
use Rattle.std.proofs.Common.{◌≡◌, ◌<◌, ◌≤◌, ◌-◌, ℕ, List, [], ◌∷◌, length, refl, ap, sym, ◌∙◌, arith, zero, suc, get_or, take, false, inl, inr}
use Rattle.std.proofs.lemmas.Bool.Decides.{eqb_tells}
use Rattle.tsb_lines.specs.Lines.{is_blank}
use Rattle.tsb_event_text.specs.Wide.{without_end}

-- a space at the end makes no text blank, and keeps one so
blank-space : (xs : List ℕ) (k : ℕ) → k < length xs → get_or xs k 0 ≡ 32 → is_blank (take (suc k) xs) ≡ is_blank (take k xs)
blank-space [] k lt e = absurd (omega (arith, lt))
blank-space (b ∷ bs) zero lt e = let z : b ≡ 32 = e in rw z refl
blank-space (b ∷ bs) (suc k) lt e = elim (eqb_tells b 32) [
  | inl z ↦ rw z.0 (blank-space bs k (omega (arith, lt)) e)
  | inr off ↦ rw off.0 refl
]

-- with another byte at its end a text is not blank
not-blank : (xs : List ℕ) (k : ℕ) → k < length xs → (get_or xs k 0 ≡ 32 → ⊥) → is_blank (take (suc k) xs) ≡ false
not-blank [] k lt e = absurd (omega (arith, lt))
not-blank (b ∷ bs) zero lt e = elim (eqb_tells b 32) [ inl z ↦ absurd (e z.1) | inr off ↦ rw off.0 refl ]
not-blank (b ∷ bs) (suc k) lt e = elim (eqb_tells b 32) [
  | inl z ↦ rw z.0 (not-blank bs k (omega (arith, lt)) e)
  | inr off ↦ rw off.0 refl
]

space-last : (xs : List ℕ) (k : ℕ) → k < length xs → get_or xs k 0 ≡ 32 → without_end (take (suc k) xs) ≡ without_end (take k xs)
space-last [] k lt e = absurd (omega (arith, lt))
space-last (b ∷ bs) zero lt e = let z : b ≡ 32 = e in rw z refl
space-last (b ∷ bs) (suc k) lt e =
    let blank : is_blank (take (suc (suc k)) (b ∷ bs)) ≡ is_blank (take (suc k) (b ∷ bs)) = blank-space (b ∷ bs) (suc k) lt e in
    rw (blank, space-last bs k (omega (arith, lt)) e) refl

solid-last : (xs : List ℕ) (k : ℕ) → k < length xs → (get_or xs k 0 ≡ 32 → ⊥) → without_end (take (suc k) xs) ≡ take (suc k) xs
solid-last [] k lt e = absurd (omega (arith, lt))
solid-last (b ∷ bs) zero lt e = rw (not-blank (b ∷ bs) zero lt e) refl
solid-last (b ∷ bs) (suc k) lt e = rw (not-blank (b ∷ bs) (suc k) lt e, solid-last bs k (omega (arith, lt)) e) refl

-- a text that ends with a space is trimmed as the text before it
pub end-space : (xs : List ℕ) (n : ℕ) → 0 < n → n ≤ length xs → get_or xs (n - 1) 0 ≡ 32 → without_end (take (n - 1) xs) ≡ without_end (take n xs)
end-space xs zero p le e = absurd (omega (arith, p))
end-space xs (suc k) p le e =
    let one : suc k - 1 ≡ k = omega arith in
    ap (λ (m : ℕ). without_end (take m xs)) one ∙ sym (space-last xs k (omega (arith, le)) (sym (ap (λ (m : ℕ). get_or xs m 0) one) ∙ e))

-- one that ends with another byte is trimmed
pub end-solid : (xs : List ℕ) (n : ℕ) → n ≤ length xs → (0 < n → get_or xs (n - 1) 0 ≡ 32 → ⊥) → without_end (take n xs) ≡ take n xs
end-solid xs zero le e = refl
end-solid xs (suc k) le e =
    let one : suc k - 1 ≡ k = omega arith in
    solid-last xs k (omega (arith, le)) (λ h. e (omega arith) (ap (λ (m : ℕ). get_or xs m 0) one ∙ h))
