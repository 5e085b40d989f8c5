-- The difference of two rows block by block: what the cells of a block add to it, and what is left then.
use Rattle.std.proofs.Common.{zero, suc, ◌≡◌, ◌≢◌, ℕ, ◌+◌, ◌-◌, ◌*◌, ◌/◌, ◌%◌, ◌^◌, ◌<◌, ◌≤◌, true, w64, bit_and, List, [], ◌∷◌, ◌++◌, length, take, drop, get_or, refl, sym, ◌∙◌, ap, ap₂, arith, append_assoc, inl, inr}
use Rattle.std.proofs.lemmas.Bool.Decides.{eqb_tells}
use Rattle.std.proofs.lemmas.List.{drop_all, drop_more, drop-drop, ext_get_or, map-append, places}
use Rattle.std.specs.Int.{trailing_zeros}
use Rattle.std.proofs.lemmas.Bool.{cases_eq}
use Rattle.std.proofs.Math.Nat.{div-lt_iff_lt-mul}
use Rattle.tsb_cells.specs.Blocks.{block_changes, is_unmarked, kept_in}
use Rattle.tsb_cells.specs.Diff.{diff, diff_from, shifted}
use Rattle.tsb_cells.specs.Row.{row_at}
use Rattle.tsb_cells.proofs.BlockLemmas.{block-least, block-most, block-within, first-before, first-marked, first-within, kept-cell, kept-marked, kept-unmarked, length_kept, none-unmarked, taken-other, taken-same}
use Rattle.tsb_cells.proofs.DiffLemmas.{length-followed}

-- rows that agree in their first cells differ in the others alone
skip : (i w : ℕ) (before now : List ℕ) → length before ≡ length now → ((k : ℕ) → k < w → k < length before → get_or before k 0 ≡ get_or now k 0) →
    diff_from i before now ≡ diff_from (i + w) (drop w before) (drop w now)
skip i zero before now full same = ap (λ (j : ℕ). diff_from j before now) (let e : i ≡ i + 0 = omega arith in e)
skip i (suc w) [] now full same = refl
skip i (suc w) (x ∷ before) [] full same = absurd (omega (arith, full))
skip i (suc w) (x ∷ before) (y ∷ now) full same =
    elim (eqb_tells x y) [
      | inl is ↦
          rw is.0
          (skip (i + 1) w before now (omega (arith, full)) (λ k below within. same (suc k) (omega arith) (omega arith))
          ∙ ap (λ (j : ℕ). diff_from j (drop w before) (drop w now)) (let e : i + 1 + w ≡ i + suc w = omega arith in e))
      | inr other ↦ absurd (other.1 (same 0 (omega arith) (omega arith)))
    ]

skip-first : (w : ℕ) (before now : List ℕ) → length before ≡ length now → ((k : ℕ) → k < w → k < length before → get_or before k 0 ≡ get_or now k 0) →
    diff before now ≡ diff_from w (drop w before) (drop w now)
skip-first w before now full same =
    skip 0 w before now full same ∙ ap (λ (j : ℕ). diff_from j (drop w before) (drop w now)) (let e : 0 + w ≡ w = omega arith in e)

-- the first cells add theirs, and the others theirs
split : (i w : ℕ) (before now : List ℕ) → length before ≡ length now →
    diff_from i before now ≡ diff_from i (take w before) (take w now) ++ diff_from (i + w) (drop w before) (drop w now)
split i zero before now full = ap (λ (j : ℕ). diff_from j before now) (let e : i ≡ i + 0 = omega arith in e)
split i (suc w) [] now full = refl
split i (suc w) (x ∷ before) [] full = absurd (omega (arith, full))
split i (suc w) (x ∷ before) (y ∷ now) full =
    let rest : diff_from (i + 1) before now ≡ diff_from (i + 1) (take w before) (take w now) ++ diff_from (i + suc w) (drop w before) (drop w now) =
    split (i + 1) w before now (omega (arith, full))
    ∙ ap (λ (j : ℕ). diff_from (i + 1) (take w before) (take w now) ++ diff_from j (drop w before) (drop w now)) (let e : i + 1 + w ≡ i + suc w = omega arith in e) in
    elim (eqb_tells x y) [
      | inl is ↦ rw is.0 rest
      | inr other ↦ rw other.0 (ap (λ (es : List (ℕ × ℕ)). (i, x) ∷ es) rest)
    ]

-- rows that agree in a block, and rows that agree behind it
same-block : (first w : ℕ) (xs ys : List ℕ) → length xs ≡ length ys →
    ((k : ℕ) → first ≤ k → k < first + w → k < length xs → get_or xs k 0 ≡ get_or ys k 0) → row_at w xs first ≡ row_at w ys first
same-block first w xs ys full same =
    ext_get_or 0 _ _ (grind (arith, places, full))
    (λ k within.
    let short : (k < w) × (first + k < length xs) = (grind (arith, places, within), grind (arith, places, within)) in
    let at : get_or xs (first + k) 0 ≡ get_or ys (first + k) 0 = same (first + k) (omega arith) (omega (arith, short.0)) short.1 in
    grind (arith, places, within, at))

same-behind : (end : ℕ) (xs ys : List ℕ) → length xs ≡ length ys → ((k : ℕ) → end ≤ k → k < length xs → get_or xs k 0 ≡ get_or ys k 0) →
    drop end xs ≡ drop end ys
same-behind end xs ys full same =
    ext_get_or 0 _ _ (grind (arith, places, full))
    (λ k within.
    let short : end + k < length xs = grind (arith, places, within) in
    let at : get_or xs (end + k) 0 ≡ get_or ys (end + k) 0 = same (end + k) (omega arith) short in
    grind (arith, places, within, at))

drop-both : (first w : ℕ) (xs : List ℕ) → drop w (drop first xs) ≡ drop (first + w) xs
drop-both first w xs = drop-drop w first xs

-- of a bank that differs in no cell before a block: the block adds its own, and is then as it is now
pub block-settled : (first w : ℕ) (kept later before now : List ℕ) → length kept ≡ length now → length later ≡ length now → length before ≡ length now →
    ((k : ℕ) → k < first → k < length now → get_or kept k 0 ≡ get_or now k 0) →
    ((k : ℕ) → first ≤ k → k < first + w → k < length now → get_or kept k 0 ≡ get_or before k 0) →
    ((k : ℕ) → k < first + w → k < length now → get_or later k 0 ≡ get_or now k 0) →
    ((k : ℕ) → first + w ≤ k → k < length now → get_or later k 0 ≡ get_or kept k 0) →
    diff kept now ≡ diff_from first (row_at w before first) (row_at w now first) ++ diff later now
block-settled first w kept later before now kept_full later_full before_full before_block in_block settled behind =
    skip-first first kept now kept_full (λ k below within. before_block k below (omega (arith, within, kept_full)))
    ∙ split first w (drop first kept) (drop first now) (grind (arith, places, kept_full))
    ∙ ap₂ (λ (xs ys : List (ℕ × ℕ)). xs ++ ys)
    (ap (λ (row : List ℕ). diff_from first row (row_at w now first))
    (same-block first w kept before (kept_full ∙ sym before_full) (λ k from below within. in_block k from below (omega (arith, within, kept_full)))))
    (ap₂ (λ (xs ys : List ℕ). diff_from (first + w) xs ys) (drop-both first w kept) (drop-both first w now)
    ∙ ap (λ (xs : List ℕ). diff_from (first + w) xs (drop (first + w) now))
    (same-behind (first + w) kept later (kept_full ∙ sym later_full) (λ k from within. sym (behind k from (omega (arith, within, kept_full)))))
    ∙ sym (skip-first (first + w) later now later_full (λ k below within. settled k below (omega (arith, within, later_full)))))

-- the first block that is marked adds its own, and what is left are those of the other marks
pub first-settled : (n word : ℕ) (cells before : List ℕ) → length cells ≡ n → length before ≡ n → word < 18446744073709551616 → word ≢ 0 →
    diff (kept_in n word cells before) cells
    ≡ block_changes n (trailing_zeros w64 word) before cells
    ++ diff (kept_in n (bit_and word (18446744073709551615 - 1 * 2 ^ (trailing_zeros w64 word) % 18446744073709551616)) cells before) cells
first-settled n word cells before cells_full before_full fits some =
    block-settled (b * (n / 64 + 1)) (n / 64 + 1) (kept_in n word cells before) (kept_in n left cells before) before cells
    (length_kept n word cells before ∙ sym cells_full) (length_kept n left cells before ∙ sym cells_full) (before_full ∙ sym cells_full)
    (λ k below within. unmarked word k (shorter k within) (none-unmarked n word k (first-before word (n / 64) k fits some below)))
    (λ k from below within.
    kept-cell n word cells before k (shorter k within)
    ∙ kept-marked n word cells before k
    (first-marked n word k fits some
    (let least : b ≤ k / (n / 64 + 1) = block-least k b (n / 64) from in let most : k / (n / 64 + 1) ≤ b = block-most k b (n / 64) below in omega (arith, least, most))))
    (λ k below within.
    unmarked left k (shorter k within)
    (elim (cases_eq (k / (n / 64 + 1)) b) [
      | inl here ↦ taken-same n word b k low here
      | inr other ↦
          let most : k / (n / 64 + 1) ≤ b = block-most k b (n / 64) below in
          let less : k / (n / 64 + 1) < b = omega (arith, most, other) in
          taken-other n word b k low (block-within k n (shorter k within)) other
          ∙ none-unmarked n word k
          (first-before word (n / 64) k fits some ((div-lt_iff_lt-mul {k = n / 64 + 1} {x = k} {y = b} (omega arith)).0 less))
    ]))
    (λ k from within.
    let later : b + 1 ≤ k / (n / 64 + 1) = block-least k (b + 1) (n / 64) (omega (arith, from)) in
    kept-cell n left cells before k (shorter k within)
    ∙ rw (taken-other n word b k low (block-within k n (shorter k within)) (λ e. omega (arith, e, later))) refl
    ∙ sym (kept-cell n word cells before k (shorter k within)))
  where
    b : ℕ
    b = trailing_zeros w64 word

    left : ℕ
    left = bit_and word (18446744073709551615 - 1 * 2 ^ b % 18446744073709551616)

    low : b < 64
    low = first-within word fits some

    shorter : (k : ℕ) → k < length cells → k < n
    shorter k within = omega (arith, within, cells_full)

    unmarked : (marks k : ℕ) → k < n → is_unmarked n marks k ≡ true → get_or (kept_in n marks cells before) k 0 ≡ get_or cells k 0
    unmarked marks k below none = kept-cell n marks cells before k below ∙ kept-unmarked n marks cells before k none

-- the same, after a list to which the block's cells are added
pub block-added : (out more : List (ℕ × ℕ)) (offset : ℕ) (all own rest : List (ℕ × ℕ)) → all ≡ own ++ rest → more ≡ out ++ shifted offset own →
    more ++ shifted offset rest ≡ out ++ shifted offset all
block-added out more offset all own rest is grows =
    ap (λ (es : List (ℕ × ℕ)). es ++ shifted offset rest) grows
    ∙ append_assoc out (shifted offset own) (shifted offset rest)
    ∙ ap (λ (es : List (ℕ × ℕ)). out ++ es) (sym (map-append (λ (e : ℕ × ℕ). (offset + e.0, e.1)) own rest))
    ∙ ap (λ (es : List (ℕ × ℕ)). out ++ shifted offset es) (sym is)

-- ---- one cell after another of a block: `before` and `now` are the block's cells, the first of which has number `o`

-- the cell `k` differs, and comes first in what is left
pub cell-differs : (o k : ℕ) (before now : List ℕ) → k < length before → k < length now → get_or before k 0 ≢ get_or now k 0 →
    diff_from (o + k) (drop k before) (drop k now) ≡ (o + k, get_or before k 0) ∷ diff_from (o + (k + 1)) (drop (k + 1) before) (drop (k + 1) now)
cell-differs o k before now within also apart =
    rw (drop_more before k 0 within, drop_more now k 0 also)
    (elim (eqb_tells (get_or before k 0) (get_or now k 0)) [
      | inl same ↦ absurd (apart same.1)
      | inr other ↦
          rw other.0
          (ap (λ (j : ℕ). (o + k, get_or before k 0) ∷ diff_from j (drop (k + 1) before) (drop (k + 1) now)) (let e : o + k + 1 ≡ o + (k + 1) = omega arith in e))
    ])

-- the cell `k` does not differ
pub cell-agrees : (o k : ℕ) (before now : List ℕ) → k < length before → k < length now → get_or before k 0 ≡ get_or now k 0 →
    diff_from (o + k) (drop k before) (drop k now) ≡ diff_from (o + (k + 1)) (drop (k + 1) before) (drop (k + 1) now)
cell-agrees o k before now within also same =
    rw (drop_more before k 0 within, drop_more now k 0 also)
    (elim (eqb_tells (get_or before k 0) (get_or now k 0)) [
      | inl it ↦ rw it.0 (ap (λ (j : ℕ). diff_from j (drop (k + 1) before) (drop (k + 1) now)) (let e : o + k + 1 ≡ o + (k + 1) = omega arith in e))
      | inr other ↦ absurd (other.1 same)
    ])

-- after the last cell none is left
pub none-behind : (o k : ℕ) (before now : List ℕ) → length before ≤ k → diff_from (o + k) (drop k before) (drop k now) ≡ []
none-behind o k before now over = rw (drop_all k before over) refl

-- a cell of the block in the row of its cells
pub row-cell : (w first k : ℕ) (cells : List ℕ) → k < w → get_or (row_at w cells first) k 0 ≡ get_or cells (first + k) 0
row-cell w first k cells within = grind (arith, places, within)

pub row-long : (w first k : ℕ) (cells : List ℕ) → k < w → first + k < length cells → k < length (row_at w cells first)
row-long w first k cells within short = grind (arith, places, within, short)

pub row-short : (w first k : ℕ) (cells : List ℕ) → length cells ≤ first + k → length (row_at w cells first) ≤ k
row-short w first k cells over = grind (arith, places, over)

pub row-whole : (w first k : ℕ) (cells : List ℕ) → w ≤ k → length (row_at w cells first) ≤ k
row-whole w first k cells over = grind (arith, places, over)

-- a cell that differs is added
pub cell-added : (o k offset : ℕ) (before now : List ℕ) (out more whole : List (ℕ × ℕ)) → k < length before → k < length now →
    get_or before k 0 ≢ get_or now k 0 → more ≡ out ++ (offset + (o + k), get_or before k 0) ∷ [] →
    out ++ shifted offset (diff_from (o + k) (drop k before) (drop k now)) ≡ whole →
    more ++ shifted offset (diff_from (o + (k + 1)) (drop (k + 1) before) (drop (k + 1) now)) ≡ whole
cell-added o k offset before now out more whole within also apart grows so_far =
    let rest : List (ℕ × ℕ) = diff_from (o + (k + 1)) (drop (k + 1) before) (drop (k + 1) now) in
    ap (λ (es : List (ℕ × ℕ)). es ++ shifted offset rest) grows
    ∙ append_assoc out ((offset + (o + k), get_or before k 0) ∷ []) (shifted offset rest)
    ∙ ap (λ (es : List (ℕ × ℕ)). out ++ shifted offset es) (sym (cell-differs o k before now within also apart)) ∙ so_far

-- there is room for it
pub cell-fits : (o k offset m : ℕ) (before now : List ℕ) (out first whole : List (ℕ × ℕ)) → k < length before → k < length now →
    get_or before k 0 ≢ get_or now k 0 → out ++ shifted offset (diff_from (o + k) (drop k before) (drop k now)) ≡ first ++ shifted offset whole →
    length first + length whole ≤ m → length out < m
cell-fits o k offset m before now out first whole within also apart so_far room =
    let left : length (diff_from (o + k) (drop k before) (drop k now))
    ≡ length ((o + k, get_or before k 0) ∷ diff_from (o + (k + 1)) (drop (k + 1) before) (drop (k + 1) now)) = ap length (cell-differs o k before now within also apart) in
    let lens : length out + length (diff_from (o + k) (drop k before) (drop k now)) ≡ length first + length whole =
    length-followed out first (diff_from (o + k) (drop k before) (drop k now)) whole offset so_far in
    omega (arith, left, lens, room)
