-- The bits of words, as tests: what is in a list of phases.
use Rattle.std.proofs.Common.{◌*◌, ◌%◌, ◌^◌, zero, suc, ◌≡◌, ◌≢◌, ℕ, ◌+◌, ◌-◌, ◌<◌, ◌≤◌, ◌==◌, not, ◌&&◌, ◌||◌, true, false, min, max, refl, arith, bit_or, bit_and, sym, ◌∙◌, ap, inl, inr}
use Rattle.std.specs.Int.{Width, bit_at, bit_not, trailing_zeros}
use mir.Val.{bits}
use Rattle.std.proofs.lemmas.Bool.Decides.{nat_tests}
use Rattle.std.proofs.lemmas.Bool.{cases_lt}
use Rattle.std.proofs.lemmas.Nat.{and_le_l}
use Rattle.std.proofs.lemmas.Nat.Bits.{bit_at_and, bit_at_or, bit_at_not, bit_at-lt, bit_at_above, bit_at_set_same, bit_at_set_other, bit_at_clear_same, bit_at_clear_other, bit_at-trailing_zeros}
use Rattle.tsb_types.specs.Sets.{names}

min-test : (a b : ℕ) → a < 2 → b < 2 → (min a b == 1) ≡ ((a == 1) && (b == 1))
min-test a b p q = grind (arith, nat_tests)

max-test : (a b : ℕ) → a < 2 → b < 2 → (max a b == 1) ≡ ((a == 1) || (b == 1))
max-test a b p q = grind (arith, nat_tests)

not-test : (a : ℕ) → a < 2 → (1 - a == 1) ≡ not (a == 1)
not-test a p = grind (arith, nat_tests)

pub names-and : (a b n : ℕ) → names (bit_and a b) n ≡ (names a n && names b n)
names-and a b zero = refl
names-and a b (suc k) = rw (bit_at_and a b k) (min-test _ _ (bit_at-lt a k) (bit_at-lt b k))

pub names-or : (a b n : ℕ) → names (bit_or a b) n ≡ (names a n || names b n)
names-or a b zero = refl
names-or a b (suc k) = rw (bit_at_or a b k) (max-test _ _ (bit_at-lt a k) (bit_at-lt b k))

pub names-minus : (w : Width) (a b n : ℕ) → a < 2 ^ bits w → b < 2 ^ bits w → names (bit_and a (bit_not w b)) n ≡ (names a n && not (names b n))
names-minus w a b zero p q = refl
names-minus w a b (suc k) p q =
    elim (cases_lt k (bits w)) [
      | inl below ↦
          rw (bit_at_and a (bit_not w b) k)
          (min-test _ _ (bit_at-lt a k) (bit_at-lt (bit_not w b) k)
          ∙ ap (λ x. (bit_at a k == 1) && x) (rw (bit_at_not w b k q below) (not-test _ (bit_at-lt b k))))
      | inr above ↦
          rw (bit_at_and a (bit_not w b) k)
          (min-test _ _ (bit_at-lt a k) (bit_at-lt (bit_not w b) k) ∙ rw (bit_at_above a (bits w) k p above) refl)
    ]

-- one number put into a list or taken out of it
abbrev pub bit_of : Width → ℕ → ℕ
bit_of w n = 1 * 2 ^ (n - 1) % 2 ^ bits w

pub names-put : (w : Width) (a n : ℕ) → 1 ≤ n → n ≤ bits w → names (bit_or a (bit_of w n)) n ≡ true
names-put w a zero p q = absurd (omega arith)
names-put w a (suc k) p q =
    let e : suc k - 1 ≡ k = omega arith in
    let low : k < bits w = omega arith in
    rw (e, bit_at_set_same w a k low) refl

pub names-put_other : (w : Width) (a n m : ℕ) → 1 ≤ n → n ≤ bits w → m ≢ n → names (bit_or a (bit_of w n)) m ≡ names a m
names-put_other w a n zero p q other = refl
names-put_other w a zero (suc j) p q other = absurd (omega arith)
names-put_other w a (suc k) (suc j) p q other =
    let e : suc k - 1 ≡ k = omega arith in
    let low : k < bits w = omega arith in
    let apart : j ≢ k = λ same. other (ap suc same) in
    rw (e, bit_at_set_other w a k low j apart) refl

pub names-taken : (w : Width) (a n : ℕ) → 1 ≤ n → n ≤ bits w → names (bit_and a (bit_not w (bit_of w n))) n ≡ false
names-taken w a zero p q = absurd (omega arith)
names-taken w a (suc k) p q =
    let e : suc k - 1 ≡ k = omega arith in
    let low : k < bits w = omega arith in
    rw (e, bit_at_clear_same w a k low) refl

pub names-taken_other : (w : Width) (a n m : ℕ) → a < 2 ^ bits w → 1 ≤ n → n ≤ bits w → m ≢ n →
    names (bit_and a (bit_not w (bit_of w n))) m ≡ names a m
names-taken_other w a n zero fits p q other = refl
names-taken_other w a zero (suc j) fits p q other = absurd (omega arith)
names-taken_other w a (suc k) (suc j) fits p q other =
    let e : suc k - 1 ≡ k = omega arith in
    let low : k < bits w = omega arith in
    let apart : j ≢ k = λ same. other (ap suc same) in
    elim (cases_lt j (bits w)) [
      | inl below ↦ rw (e, bit_at_clear_other w a k low j below apart) refl
      | inr above ↦
          let taken = bit_not w (1 * 2 ^ k % 2 ^ bits w) in
          rw (e, bit_at_and a taken j) (min-test _ _ (bit_at-lt a j) (bit_at-lt taken j) ∙ rw (bit_at_above a (bits w) j fits above) refl)
    ]

-- a list with a number taken out is a lesser number
pub taken-smaller : (w : Width) (a n : ℕ) → 1 ≤ n → n ≤ bits w → names a n ≡ true → bit_and a (bit_not w (bit_of w n)) < a
taken-smaller w a n p q had =
    lt_from_ne _ _ (and_le_l a (bit_not w (bit_of w n)))
    (λ same. differ (sym (names-taken w a n p q) ∙ ap (λ (x : ℕ). names x n) same ∙ had))
  where
    lt_from_ne : (x y : ℕ) → x ≤ y → x ≢ y → x < y
    lt_from_ne x y p q = omega arith

    differ : false ≡ true → ⊥
    differ e = cc

-- the least number in a list that is not empty
pub names-first : (w : Width) (a : ℕ) → a < 2 ^ bits w → a ≢ 0 → names a (trailing_zeros w a + 1) ≡ true
names-first w a fits some =
    let low = bit_at-trailing_zeros w a (omega arith) fits in
    let one : trailing_zeros w a + 1 ≡ suc (trailing_zeros w a) = omega arith in
    rw (one, low.1) refl

pub names-before_first : (w : Width) (a m : ℕ) → a < 2 ^ bits w → a ≢ 0 → m < trailing_zeros w a + 1 → names a m ≡ false
names-before_first w a zero fits some below = refl
names-before_first w a (suc j) fits some below =
    let low = bit_at-trailing_zeros w a (omega arith) fits in
    rw (low.2 j (omega arith)) refl
