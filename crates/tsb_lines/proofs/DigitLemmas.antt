-- Numbers are read digit by digit.
use Rattle.std.proofs.Common.{◌≡◌, ℕ, ◌+◌, ◌-◌, ◌*◌, ◌/◌, ◌%◌, ◌^◌, ◌<◌, ◌≤◌, ◌&&◌, Bool, true, false, leb, List, [], ◌∷◌, ◌++◌, length, length-append, Some, None, if◌then◌else◌, refl, ap, ◌∙◌, arith}
use Rattle.std.proofs.lemmas.Bool.{le-leb}
use Rattle.std.proofs.lemmas.Fmt.{decimal_by_steps, length-decimal-le}
use Rattle.std.specs.Fmt.{decimal}
use Rattle.tsb_lines.specs.Digits.{digit, seven_digits}
use Rattle.tsb_lines.specs.Words.{at_most, number_from, number_of}

pub digit-read : (n d : ℕ) (ds : List ℕ) → d < 10 → number_from n ((48 + d) ∷ ds) ≡ number_from (n * 10 + d) ds
digit-read n d ds lt =
    let low : leb 48 (48 + d) ≡ true = le-leb 48 (48 + d) (omega arith) in
    let high : leb (48 + d) 57 ≡ true = le-leb (48 + d) 57 (omega (arith, lt)) in
    let same : n * 10 + (48 + d - 48) ≡ n * 10 + d = omega arith in
    rw (low, high, same) refl

-- a digit after those of the number above it
pub digit-next : (t n m unit : ℕ) (ds : List ℕ) → n * 10 + t / unit % 10 ≡ m → number_from n ((48 + t / unit % 10) ∷ ds) ≡ number_from m ds
digit-next t n m unit ds e = digit-read n (t / unit % 10) ds (omega arith) ∙ ap (λ (k : ℕ). number_from k ds) e

-- a number below ten millions is read of its last 7 digits
seven-digits-from : (t : ℕ) → t < 10000000 → number_from 0 (seven_digits t) ≡ Some t
seven-digits-from t lt =
    digit-next t 0 (t / 1000000) 1000000 (digit t 100000 ∷ digit t 10000 ∷ digit t 1000 ∷ digit t 100 ∷ digit t 10 ∷ digit t 1 ∷ []) (omega (arith, lt))
    ∙ digit-next t (t / 1000000) (t / 100000) 100000 (digit t 10000 ∷ digit t 1000 ∷ digit t 100 ∷ digit t 10 ∷ digit t 1 ∷ []) (omega arith)
    ∙ digit-next t (t / 100000) (t / 10000) 10000 (digit t 1000 ∷ digit t 100 ∷ digit t 10 ∷ digit t 1 ∷ []) (omega arith)
    ∙ digit-next t (t / 10000) (t / 1000) 1000 (digit t 100 ∷ digit t 10 ∷ digit t 1 ∷ []) (omega arith)
    ∙ digit-next t (t / 1000) (t / 100) 100 (digit t 10 ∷ digit t 1 ∷ []) (omega arith)
    ∙ digit-next t (t / 100) (t / 10) 10 (digit t 1 ∷ []) (omega arith)
    ∙ digit-next t (t / 10) t 1 [] (omega arith)

pub seven-digits-read : (t : ℕ) → t < 10000000 → number_of (seven_digits t) ≡ Some t
seven-digits-read t lt =
    let small : leb t 4294967295 ≡ true = le-leb t 4294967295 (omega (arith, lt)) in
    ap (at_most 4294967295) (seven-digits-from t lt) ∙ rw small refl

-- ## Numbers without zeros before them

from-last : (a : ℕ) (ds : List ℕ) (m d : ℕ) → d < 10 → number_from a ds ≡ Some m → number_from a (ds ++ (48 + d) ∷ []) ≡ Some (m * 10 + d)
from-last a [] m d lt e = let same : a ≡ m = cc in rw same (digit-read m d [] lt)
from-last a (b ∷ bs) m d lt e = go (leb 48 b && leb b 57) (from-last (a * 10 + (b - 48)) bs m d lt) e
  where
    go : (t : Bool)
        → (number_from (a * 10 + (b - 48)) bs ≡ Some m → number_from (a * 10 + (b - 48)) (bs ++ (48 + d) ∷ []) ≡ Some (m * 10 + d))
        → (if t then number_from (a * 10 + (b - 48)) bs else None) ≡ Some m
        → (if t then number_from (a * 10 + (b - 48)) (bs ++ (48 + d) ∷ []) else None) ≡ Some (m * 10 + d)
    go true f h = f h
    go false f h = absurd (cc)

-- digits that spell a number
abbrev Spells : ℕ → List ℕ → Type 0
Spells n ds = (number_from 0 ds ≡ Some n) × (1 ≤ length ds)

spelled : (n : ℕ) → n < 2 ^ 64 → Spells n (decimal n)
spelled = decimal_by_steps Spells
    (λ n lt. let same : 0 * 10 + n ≡ n = omega arith in (digit-read 0 n [] lt ∙ ap (λ (k : ℕ). Some k) same, omega arith))
    (λ n ds le h.
    let same : n / 10 * 10 + n % 10 ≡ n = omega arith in (
      from-last 0 ds (n / 10) (n % 10) (omega arith) h.0 ∙ ap (λ (k : ℕ). Some k) same,
      omega (arith, length-append ds ((48 + n % 10) ∷ []), h.1),
    ))

-- a number of 32 bits has at most ten digits
pub number-short : (n : ℕ) → n < 2 ^ 32 → length (decimal n) ≤ 10
number-short n lt = length-decimal-le 10 n (omega arith) (omega (arith, lt)) (omega (arith, lt))

-- and is read of them
pub number-read : (n : ℕ) → n < 2 ^ 32 → number_of (decimal n) ≡ Some n
number-read n lt =
    let s = spelled n (omega (arith, lt)) in
    let some : leb 1 (length (decimal n)) ≡ true = le-leb 1 (length (decimal n)) s.1 in
    let most : leb (length (decimal n)) 10 ≡ true = le-leb (length (decimal n)) 10 (number-short n lt) in
    let fits : leb n 4294967295 ≡ true = le-leb n 4294967295 (omega (arith, lt)) in
    rw (some, most, s.0, fits) refl
