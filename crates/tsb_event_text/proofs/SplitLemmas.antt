-- What stands before and behind a byte.
use Rattle.std.proofs.Common.{◌≡◌, ◌<◌, ℕ, List, [], ◌∷◌, length, refl, ap, arith, zero, suc, get_or, take, drop, inl, inr}
use Rattle.std.proofs.lemmas.Bool.Decides.{eqb_tells}
use Rattle.tsb_event_text.specs.TimeForms.{before, behind}
use Rattle.tsb_event_text.proofs.FieldLemmas.{Without}

pub before-all : (mark : ℕ) (xs : List ℕ) → Without mark xs (length xs) → before mark xs ≡ xs
before-all mark [] f = refl
before-all mark (b ∷ bs) f = elim (eqb_tells b mark) [
  | inl z ↦ absurd (f 0 (omega arith) z.1)
  | inr off ↦ rw off.0 (ap (λ (v : List ℕ). b ∷ v) (before-all mark bs (λ k lt. f (suc k) (omega (arith, lt)))))
]

pub behind-none : (mark : ℕ) (xs : List ℕ) → Without mark xs (length xs) → behind mark xs ≡ []
behind-none mark [] f = refl
behind-none mark (b ∷ bs) f = elim (eqb_tells b mark) [
  | inl z ↦ absurd (f 0 (omega arith) z.1)
  | inr off ↦ rw off.0 (behind-none mark bs (λ k lt. f (suc k) (omega (arith, lt))))
]

pub before-first : (mark : ℕ) (xs : List ℕ) (n : ℕ) → n < length xs → Without mark xs n → get_or xs n 0 ≡ mark → before mark xs ≡ take n xs
before-first mark [] n lt f e = absurd (omega (arith, lt))
before-first mark (b ∷ bs) zero lt f e = let z : b ≡ mark = e in elim (eqb_tells b mark) [ inl is ↦ rw is.0 refl | inr off ↦ absurd (off.1 z) ]
before-first mark (b ∷ bs) (suc n) lt f e = elim (eqb_tells b mark) [
  | inl z ↦ absurd (f 0 (omega arith) z.1)
  | inr off ↦ rw off.0 (ap (λ (v : List ℕ). b ∷ v) (before-first mark bs n (omega (arith, lt)) (λ k below. f (suc k) (omega (arith, below))) e))
]

pub behind-first : (mark : ℕ) (xs : List ℕ) (n : ℕ) → n < length xs → Without mark xs n → get_or xs n 0 ≡ mark → behind mark xs ≡ drop (suc n) xs
behind-first mark [] n lt f e = absurd (omega (arith, lt))
behind-first mark (b ∷ bs) zero lt f e = let z : b ≡ mark = e in elim (eqb_tells b mark) [ inl is ↦ rw is.0 refl | inr off ↦ absurd (off.1 z) ]
behind-first mark (b ∷ bs) (suc n) lt f e = elim (eqb_tells b mark) [
  | inl z ↦ absurd (f 0 (omega arith) z.1)
  | inr off ↦ rw off.0 (behind-first mark bs n (omega (arith, lt)) (λ k below. f (suc k) (omega (arith, below))) e)
]
