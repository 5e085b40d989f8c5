-- Lists of phases as tests: a list that is made of a test, and sets that have the same members.
use Rattle.std.proofs.Common.{zero, suc, ◌≡◌, ℕ, ◌+◌, ◌*◌, ◌/◌, ◌%◌, ◌^◌, ◌<◌, ◌≤◌, ◌==◌, Bool, true, false, ◌&&◌, if◌then◌else◌, refl, arith, sym, ◌∙◌, ap}
use Rattle.std.specs.Int.{bit_at}
use Rattle.std.proofs.lemmas.Bool.{and_parts, eqb-true}
use Rattle.std.proofs.lemmas.Nat.Bits.{bit_at_lowest, bit_at-suc, bit_at-zero, bit_at-lt, bit_at_above, same_from_bits_below}
use Rattle.tsb_types.specs.declared.detector_set.DetectorSet.{DetectorSet}
use Rattle.tsb_types.specs.declared.number_set.NumberSet.{NumberSet}
use Rattle.tsb_types.specs.declared.row.Row.{Row}
use Rattle.tsb_types.specs.Sets.{names, has_number, has_detector, is_same_row, is_same_set, is_same_detectors, number_of_bits, list_of}

-- the lowest bit of a word, and the word without it
pub lowest : (b : Bool) (m : ℕ) → (((if b then 1 else 0) + 2 * m) % 2 == 1) ≡ b
lowest true m = let e : (1 + 2 * m) % 2 ≡ 1 = omega arith in rw e refl
lowest false m = let e : (0 + 2 * m) % 2 ≡ 0 = omega arith in rw e refl

pub higher : (b : Bool) (m : ℕ) → ((if b then 1 else 0) + 2 * m) / 2 ≡ m
higher true m = omega arith
higher false m = omega arith

pub bit_at-number_of_bits : (n i : ℕ) (f : ℕ → Bool) → i < n → (bit_at (number_of_bits n f) i == 1) ≡ f i
unfolding number_of_bits
bit_at-number_of_bits zero i f below = absurd (omega arith)
bit_at-number_of_bits (suc n) zero f below = rw (bit_at_lowest (number_of_bits (suc n) f)) (lowest (f 0) (number_of_bits n (λ k. f (suc k))))
bit_at-number_of_bits (suc n) (suc i) f below =
    rw (bit_at-suc (number_of_bits (suc n) f) i, higher (f 0) (number_of_bits n (λ k. f (suc k))))
    (bit_at-number_of_bits n i (λ k. f (suc k)) (omega arith))

double-below : (b : Bool) (m p : ℕ) → m < p → (if b then 1 else 0) + 2 * m < 2 * p
double-below true m p below = omega arith
double-below false m p below = omega arith

pub number_of_bits-below : (n : ℕ) (f : ℕ → Bool) → number_of_bits n f < 2 ^ n
unfolding number_of_bits
number_of_bits-below zero f = omega arith
number_of_bits-below (suc n) f =
    let e : 2 ^ suc n ≡ 2 * 2 ^ n = omega arith in
    rw e (double-below (f 0) (number_of_bits n (λ k. f (suc k))) (2 ^ n) (number_of_bits-below n (λ k. f (suc k))))

-- the list of those that pass a test names each that passes it
pub names-list_of : (n p : ℕ) (test : ℕ → Bool) → 1 ≤ p → p ≤ n → names (list_of n test) p ≡ test p
names-list_of n zero test from within = absurd (omega arith)
names-list_of n (suc k) test from within = bit_at-number_of_bits n k (λ j. test (suc j)) (omega arith)

pub list_of-below : (n : ℕ) (test : ℕ → Bool) → list_of n test < 2 ^ n
list_of-below n test = number_of_bits-below n (λ k. test (suc k))

-- the list of all 16 phases names each
pub names-all : (p : ℕ) → 1 ≤ p → p ≤ 16 → names 65535 p ≡ true
unfolding number_of_bits
names-all p from within = names-list_of 16 p (λ k. true) from within

-- a list of the first n phases names none above n
pub names-above : (n p list : ℕ) → list < 2 ^ n → n < p → names list p ≡ false
names-above n zero list fits above = refl
names-above n (suc k) list fits above = let e : bit_at list k ≡ 0 = bit_at_above list n k fits (omega arith) in rw e refl

pub names-zero : (p : ℕ) → names 0 p ≡ false
names-zero zero = refl
names-zero (suc k) = rw (bit_at-zero k) refl

same-bit : (x y : ℕ) → x < 2 → y < 2 → (x == 1) ≡ (y == 1) → x ≡ y
same-bit zero zero p q e = refl
same-bit zero (suc zero) p q e = cc
same-bit (suc zero) zero p q e = cc
same-bit (suc zero) (suc zero) p q e = refl
same-bit zero (suc (suc y)) p q e = absurd (omega arith)
same-bit (suc zero) (suc (suc y)) p q e = absurd (omega arith)
same-bit (suc (suc x)) y p q e = absurd (omega arith)

-- two lists of the first n phases that name the same are one
pub same_names : (n a b : ℕ) → a < 2 ^ n → b < 2 ^ n → ((p : ℕ) → 1 ≤ p → p ≤ n → names a p ≡ names b p) → a ≡ b
same_names n a b p q same =
    same_from_bits_below n a b p q (λ i below. same-bit _ _ (bit_at-lt a i) (bit_at-lt b i) (same (suc i) (omega arith) (omega arith)))

-- the list of those that a list names is that list
pub list_of-names_within : (n list : ℕ) → list < 2 ^ n → list_of n (names list) ≡ list
list_of-names_within n list fits = same_names n _ _ (list_of-below n (names list)) fits (λ p from within. names-list_of n p (names list) from within)

pub list_of-names : (list : ℕ) → list < 2 ^ 16 → list_of 16 (names list) ≡ list
list_of-names = list_of-names_within 16

-- a test that passes the same gives the same list
pub same-list_of : (n : ℕ) (test other : ℕ → Bool) → ((p : ℕ) → 1 ≤ p → p ≤ n → test p ≡ other p) → list_of n test ≡ list_of n other
same-list_of n test other same =
    same_names n _ _ (list_of-below n test) (list_of-below n other)
    (λ p from within. names-list_of n p test from within ∙ same p from within ∙ sym (names-list_of n p other from within))

-- two sets that have the same are one
pub same_numbers : (s t : NumberSet) → s.word < 2 ^ 16 → t.word < 2 ^ 16 → ((n : ℕ) → has_number s n ≡ has_number t n) → s ≡ t
same_numbers s t p q same =
    ap (λ (w : ℕ). let made : NumberSet = record { word = w } in made) (same_names 16 s.word t.word p q (λ n from within. same n))

pub same_detectors : (s t : DetectorSet) → s.word < 2 ^ 64 → t.word < 2 ^ 64 → ((d : ℕ) → has_detector s d ≡ has_detector t d) → s ≡ t
same_detectors s t p q same =
    ap (λ (w : ℕ). let made : DetectorSet = record { word = w } in made) (same_names 64 s.word t.word p q (λ d from within. same d))

pub same-set : (a b : NumberSet) → is_same_set a b ≡ true → a ≡ b
same-set a b is = ap (λ (w : ℕ). let made : NumberSet = record { word = w } in made) (eqb-true a.word b.word is)

pub same-detectors : (a b : DetectorSet) → is_same_detectors a b ≡ true → a ≡ b
same-detectors a b is = ap (λ (w : ℕ). let made : DetectorSet = record { word = w } in made) (eqb-true a.word b.word is)

pub same-row : (a b : Row) → is_same_row a b ≡ true → a ≡ b
same-row a b is =
    let all = and_parts (is_same_detectors a.vehicles b.vehicles && is_same_set a.pedestrians b.pedestrians) (is_same_set a.preempts b.preempts) is in
    let first = and_parts (is_same_detectors a.vehicles b.vehicles) (is_same_set a.pedestrians b.pedestrians) all.0 in
    let vehicles : a.vehicles ≡ b.vehicles = same-detectors a.vehicles b.vehicles first.0 in
    let pedestrians : a.pedestrians ≡ b.pedestrians = same-set a.pedestrians b.pedestrians first.1 in
    let preempts : a.preempts ≡ b.preempts = same-set a.preempts b.preempts all.1 in
    λ j. let there : Row = record { vehicles = vehicles j; pedestrians = pedestrians j; preempts = preempts j } in there
