-- The word that marks the blocks written of a bank: what it is to mark a block, and to take the first mark out. What a
-- bank kept, as cells are written and blocks are marked.
use Rattle.std.proofs.Common.{◌≡◌, ◌≢◌, ℕ, ◌+◌, ◌-◌, ◌*◌, ◌/◌, ◌%◌, ◌^◌, ◌<◌, ◌≤◌, ◌==◌, true, false, List, length, get_or, set, arith, w64, bit_or, bit_and, refl, sym, ◌∙◌, ap, eq-eqb, inl, inr, get_or-set_other}
use Rattle.std.specs.Int.{bit_at, trailing_zeros}
use Rattle.std.proofs.lemmas.Bool.{cases_eq}
use Rattle.std.proofs.lemmas.Bool.Decides.{eqb_tells}
use Rattle.std.proofs.lemmas.Nat.{and_le_l}
use Rattle.std.proofs.lemmas.Nat.Bits.{bit_at-zero, bit_at_set_same, bit_at_set_other, bit_at_clear_same, bit_at_clear_other, bit_at-trailing_zeros}
use Rattle.std.proofs.lemmas.List.{get_or-map}
use Rattle.tsb_types.specs.Lists.{run_from}
use Rattle.tsb_types.proofs.RunLemmas.{length-run_from, get_or-run_from, map-run_from}
use Rattle.tsb_cells.specs.Blocks.{is_unmarked, kept_at, kept_in}
use Rattle.std.proofs.Math.Nat.{div-lt_iff_lt-mul, div-mul-le_self, le-div_iff_mul-le, lt-div-mul-add}
use Rattle.std.proofs.Math.ListN.{length-map}

-- a block without a bit in the word is not marked, and one with a bit is
pub none-unmarked : (n word k : ℕ) → bit_at word (k / (n / 64 + 1)) ≡ 0 → is_unmarked n word k ≡ true
unfolding is_unmarked
none-unmarked n word k none = eq-eqb (bit_at word (k / (n / 64 + 1))) 0 none

pub some-marked : (n word k : ℕ) → bit_at word (k / (n / 64 + 1)) ≢ 0 → is_unmarked n word k ≡ false
unfolding is_unmarked
some-marked n word k some = elim (eqb_tells (bit_at word (k / (n / 64 + 1))) 0) [ inl same ↦ absurd (some same.1) | inr other ↦ other.0 ]

-- a block that has been marked
pub marked-same : (n word b k : ℕ) → b < 64 → k / (n / 64 + 1) ≡ b → is_unmarked n (bit_or word (1 * 2 ^ b % 18446744073709551616)) k ≡ false
unfolding is_unmarked
marked-same n word b k low is =
    rw is (let one : bit_at (bit_or word (1 * 2 ^ b % 18446744073709551616)) b ≡ 1 = bit_at_set_same w64 word b low in rw one refl)

-- all other marks stay
pub marked-other : (n word b k : ℕ) → b < 64 → k / (n / 64 + 1) ≢ b →
    is_unmarked n (bit_or word (1 * 2 ^ b % 18446744073709551616)) k ≡ is_unmarked n word k
unfolding is_unmarked
marked-other n word b k low other = ap (λ (bit : ℕ). bit == 0) (bit_at_set_other w64 word b low (k / (n / 64 + 1)) other)

-- the word without the mark of a block
pub taken-same : (n word b k : ℕ) → b < 64 → k / (n / 64 + 1) ≡ b →
    is_unmarked n (bit_and word (18446744073709551615 - 1 * 2 ^ b % 18446744073709551616)) k ≡ true
unfolding is_unmarked
taken-same n word b k low is = rw is (eq-eqb _ 0 (bit_at_clear_same w64 word b low))

-- it has all other marks
pub taken-other : (n word b k : ℕ) → b < 64 → k / (n / 64 + 1) < 64 → k / (n / 64 + 1) ≢ b →
    is_unmarked n (bit_and word (18446744073709551615 - 1 * 2 ^ b % 18446744073709551616)) k ≡ is_unmarked n word k
unfolding is_unmarked
taken-other n word b k low below other = ap (λ (bit : ℕ). bit == 0) (bit_at_clear_other w64 word b low (k / (n / 64 + 1)) below other)

-- the word without its first mark is less
pub taken-smaller : (word : ℕ) → word < 18446744073709551616 → word ≢ 0 →
    bit_and word (18446744073709551615 - 1 * 2 ^ (trailing_zeros w64 word) % 18446744073709551616) < word
taken-smaller word fits some =
    let first = bit_at-trailing_zeros w64 word (omega (arith, some)) fits in
    lt_from_ne _ _ (and_le_l word (18446744073709551615 - 1 * 2 ^ (trailing_zeros w64 word) % 18446744073709551616))
    (λ same. differ _ (sym (ap (λ (x : ℕ). bit_at x (trailing_zeros w64 word)) same) ∙ bit_at_clear_same w64 word (trailing_zeros w64 word) first.0) first.1)
  where
    lt_from_ne : (x y : ℕ) → x ≤ y → x ≢ y → x < y
    lt_from_ne x y p q = omega arith

    differ : (bit : ℕ) → bit ≡ 0 → bit ≡ 1 → ⊥
    differ bit p q = omega (arith, p, q)

-- the first mark's block is one of the 64
pub first-within : (word : ℕ) → word < 18446744073709551616 → word ≢ 0 → trailing_zeros w64 word < 64
first-within word fits some = (bit_at-trailing_zeros w64 word (omega (arith, some)) fits).0

pub first-marked : (n word k : ℕ) → word < 18446744073709551616 → word ≢ 0 → k / (n / 64 + 1) ≡ trailing_zeros w64 word → is_unmarked n word k ≡ false
first-marked n word k fits some is =
    let one : bit_at word (trailing_zeros w64 word) ≡ 1 = (bit_at-trailing_zeros w64 word (omega (arith, some)) fits).1 in
    let bit : bit_at word (k / (n / 64 + 1)) ≡ 1 = ap (bit_at word) is ∙ one in
    some-marked n word k (λ none. omega (arith, bit, none))

-- no cell before the first mark's block is marked
pub first-before : (word width k : ℕ) → word < 18446744073709551616 → word ≢ 0 → k < trailing_zeros w64 word * (width + 1) →
    bit_at word (k / (width + 1)) ≡ 0
first-before word width k fits some before =
    let below : k / (width + 1) < trailing_zeros w64 word = (div-lt_iff_lt-mul {k = width + 1} {x = k} {y = trailing_zeros w64 word} (omega arith)).1 before in
    let low = bit_at-trailing_zeros w64 word (omega (arith, some)) fits in
    low.2 (k / (width + 1)) below

-- a block's cells are side by side
pub block-start : (k b width : ℕ) → k / (width + 1) ≡ b → b * (width + 1) ≤ k
block-start k b width in_block = rw (sym in_block) (div-mul-le_self k (width + 1))

pub block-end : (k b width : ℕ) → k / (width + 1) ≡ b → k < b * (width + 1) + (width + 1)
block-end k b width in_block =
    let last : k < k / (width + 1) * (width + 1) + (width + 1) = lt-div-mul-add {a = k} {b = width + 1} (omega arith) in
    rw (sym in_block) last

-- the cells before the end of a block are in it or in an earlier one, and those from its end on in later ones
pub block-most : (k b width : ℕ) → k < b * (width + 1) + (width + 1) → k / (width + 1) ≤ b
block-most k b width below =
    let last : k < (b + 1) * (width + 1) = omega arith in
    let less : k / (width + 1) < b + 1 = (div-lt_iff_lt-mul {k = width + 1} {x = k} {y = b + 1} (omega arith)).1 last in
    omega (arith, less)

pub block-least : (k b width : ℕ) → b * (width + 1) ≤ k → b ≤ k / (width + 1)
block-least k b width from = (le-div_iff_mul-le {k = width + 1} {x = b} {y = k} (omega arith)).1 from

-- each cell is in one of the 64 blocks
pub block-within : (at n : ℕ) → at < n → at / (n / 64 + 1) < 64
block-within at n within =
    let long : n < n / 64 * 64 + 64 = lt-div-mul-add {a = n} {b = 64} (omega arith) in
    (div-lt_iff_lt-mul {k = n / 64 + 1} {x = at} {y = 64} (omega arith)).1 (omega (arith, long, within))

-- ---- what a bank kept

pub length_kept : (n word : ℕ) (cells before : List ℕ) → length (kept_in n word cells before) ≡ n
unfolding kept_in
length_kept n word cells before = length-map (run_from 0 n) (kept_at n word cells before) ∙ length-run_from 0 n

pub kept-cell : (n word : ℕ) (cells before : List ℕ) (k : ℕ) → k < n → get_or (kept_in n word cells before) k 0 ≡ kept_at n word cells before k
unfolding kept_in
kept-cell n word cells before k below =
    let within : k < length (run_from 0 n) = omega (arith, length-run_from 0 n, below) in
    get_or-map (kept_at n word cells before) (run_from 0 n) k 0 0 within
    ∙ ap (kept_at n word cells before) (get_or-run_from 0 n k below ∙ (let e : 0 + k ≡ k = omega arith in e))

-- a list that has what each cell held
pub kept-is : (n word : ℕ) (cells before row : List ℕ) → length row ≡ n → ((k : ℕ) → k < n → get_or row k 0 ≡ kept_at n word cells before k) →
    row ≡ kept_in n word cells before
unfolding kept_in
kept-is n word cells before row full each =
    map-run_from (kept_at n word cells before) 0 n row full
    (λ k below. each k below ∙ ap (kept_at n word cells before) (let e : k ≡ 0 + k = omega arith in e))

-- a cell in a block that is not marked, and in one that is
pub kept-unmarked : (n word : ℕ) (cells before : List ℕ) (k : ℕ) → is_unmarked n word k ≡ true → kept_at n word cells before k ≡ get_or cells k 0
kept-unmarked n word cells before k none = rw none refl

pub kept-marked : (n word : ℕ) (cells before : List ℕ) (k : ℕ) → is_unmarked n word k ≡ false → kept_at n word cells before k ≡ get_or before k 0
kept-marked n word cells before k some = rw some refl

-- where no block is marked, the cells hold what they held
pub kept-unwritten : (n word : ℕ) (cells before : List ℕ) → length cells ≡ n → word ≡ 0 → cells ≡ kept_in n word cells before
kept-unwritten n word cells before full none =
    kept-is n word cells before cells full
    (λ k below. sym (kept-unmarked n word cells before k
    (none-unmarked n word k (ap (λ (w : ℕ). bit_at w (k / (n / 64 + 1))) none ∙ bit_at-zero (k / (n / 64 + 1))))))

-- a write to a cell of a block that is marked
pub kept-put : (n word at value : ℕ) (cells before : List ℕ) → is_unmarked n word at ≡ false →
    kept_in n word (set cells at value) before ≡ kept_in n word cells before
kept-put n word at value cells before some =
    kept-is n word cells before (kept_in n word (set cells at value) before) (length_kept n word (set cells at value) before)
    (λ k below. kept-cell n word (set cells at value) before k below ∙ same k)
  where
    same : (k : ℕ) → kept_at n word (set cells at value) before k ≡ kept_at n word cells before k
    same k =
        elim (cases_eq k at) [
          | inl here ↦ rw (here, some) refl
          | inr other ↦ rw (get_or-set_other cells at k value 0 other) refl
        ]

-- a block is marked, and what its cells hold is kept
pub kept-more : (n word b : ℕ) (cells before kept : List ℕ) → b < 64 →
    ((k : ℕ) → k < n → k / (n / 64 + 1) ≡ b → is_unmarked n word k ≡ true) →
    ((k : ℕ) → k < n → k / (n / 64 + 1) ≡ b → get_or kept k 0 ≡ get_or cells k 0) →
    ((k : ℕ) → k / (n / 64 + 1) ≢ b → get_or kept k 0 ≡ get_or before k 0) →
    kept_in n (bit_or word (1 * 2 ^ b % 18446744073709551616)) cells kept ≡ kept_in n word cells before
kept-more n word b cells before kept low new here others =
    let more : ℕ = bit_or word (1 * 2 ^ b % 18446744073709551616) in
    kept-is n word cells before (kept_in n more cells kept) (length_kept n more cells kept)
    (λ k below.
    kept-cell n more cells kept k below
    ∙ elim (cases_eq (k / (n / 64 + 1)) b) [
      | inl is ↦ kept-marked n more cells kept k (marked-same n word b k low is) ∙ here k below is ∙ sym (kept-unmarked n word cells before k (new k below is))
      | inr other ↦
          rw (marked-other n word b k low other, others k other) refl
    ])
