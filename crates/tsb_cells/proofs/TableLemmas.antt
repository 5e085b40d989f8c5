-- Tables of lists and columns: cells that are those of what they say, and what such cells are read as. A list is one
-- cell, a column some cells from a place on, one of each number.
use Rattle.std.proofs.Common.{◌≡◌, ℕ, ◌+◌, ◌-◌, ◌%◌, ◌^◌, ◌<◌, ◌≤◌, Bool, List, [], ◌∷◌, ◌++◌, length, take, drop, get_or, slice_index, map, refl, sym, ap, ap₂, ◌∙◌, arith, length-take-le, length-drop, length-append, get_or-take}
use Rattle.std.proofs.Math.Seq.{take-add}
use Rattle.std.proofs.Math.ListN.{get_or-append}
use Rattle.std.proofs.lemmas.List.{get_or-drop, get_or-append-add, get_or-map, length-map}
use Rattle.tsb_cells.specs.Row.{row_at}
use Rattle.tsb_types.specs.Lists.{run_from}
use Rattle.tsb_types.specs.Sets.{names, list_of, list_in}
use Rattle.tsb_types.proofs.RunLemmas.{map-run_from, length-run_from, get_or-run_from}
use Rattle.tsb_types.proofs.SetLemmas.{list_of-names_within, list_of-below, names-list_of, same-list_of}

-- ## A row is the table of what it says

-- a column: n cells of a row, one of each number
pub column : (n : ℕ) (row : List ℕ) (o : ℕ) (f : ℕ → ℕ) → o + n ≤ length row → 1 ≤ o →
    ((p : ℕ) → 1 ≤ p → p ≤ n → f p ≡ slice_index row (o - 1 + p)) → map f (run_from 1 n) ≡ row_at n row o
column n row o f full from same = sym (map-run_from f 1 n (row_at n row o) long at)
  where
    long : length (row_at n row o) ≡ n
    long = length-take-le n (drop o row) (omega (arith, full, length-drop o row))

    at : (k : ℕ) → k < n → get_or (row_at n row o) k 0 ≡ f (1 + k)
    at k below =
        let place : o - 1 + (1 + k) ≡ o + k = omega (arith, from) in
        get_or-take n (drop o row) k 0 below ∙ get_or-drop o row k 0 ∙ ap (λ (m : ℕ). get_or row m 0) (sym place)
        ∙ sym (same (1 + k) (omega arith) (omega (arith, below)))

-- a list of the first n numbers
pub list-told_within : (n : ℕ) (row : List ℕ) (k : ℕ) (test : ℕ → Bool) → n ≤ 16 → slice_index row k < 2 ^ n →
    slice_index row k < 65536 → ((p : ℕ) → 1 ≤ p → p ≤ n → test p ≡ names (list_in row k) p) → list_of n test ≡ slice_index row k
list-told_within n row k test most small fits same =
    let whole : list_in row k ≡ slice_index row k = omega arith in
    same-list_of n test (names (list_in row k)) same ∙ ap (λ (list : ℕ). list_of n (names list)) whole
    ∙ list_of-names_within n (slice_index row k) small

-- a list of all 16
pub list-told : (row : List ℕ) (k : ℕ) (test : ℕ → Bool) → slice_index row k < 65536 →
    ((p : ℕ) → 1 ≤ p → p ≤ 16 → test p ≡ names (list_in row k) p) → list_of 16 test ≡ slice_index row k
list-told row k test small same = list-told_within 16 row k test (omega arith) small small same

-- the first cells of a row, and the column after them
pub more : (n : ℕ) (row : List ℕ) (o : ℕ) (f : ℕ → ℕ) (xs : List ℕ) → xs ≡ take o row → map f (run_from 1 n) ≡ row_at n row o →
    xs ++ map f (run_from 1 n) ≡ take (o + n) row
more n row o f xs one two = ap₂ (λ (us vs : List ℕ). us ++ vs) one two ∙ sym (take-add o n row)

-- the first two cells
pub first-two : (row : List ℕ) → 2 ≤ length row → (slice_index row 0 ∷ slice_index row 1 ∷ []) ≡ take 2 row
first-two (a ∷ (b ∷ rest)) full = refl
first-two (a ∷ []) full = absurd (omega arith)
first-two [] full = absurd (omega arith)

-- ## What a table says

-- a cell of the first ones is read as it was, whatever stands after
pub front-read : (xs ys : List ℕ) (k : ℕ) → k < length xs → slice_index (xs ++ ys) k ≡ slice_index xs k
front-read xs ys k below = get_or-append xs ys 0 k below

-- a column after the first o cells
pub column-read : (n o : ℕ) (xs : List ℕ) (f : ℕ → ℕ) (p : ℕ) → length xs ≡ o → 1 ≤ o → 1 ≤ p → p ≤ n →
    slice_index (xs ++ map f (run_from 1 n)) (o - 1 + p) ≡ f p
column-read n o xs f p full begun from to =
    let place : o - 1 + p ≡ length xs + (p - 1) = omega (arith, full, begun, from) in
    let below : p - 1 < length (run_from 1 n) = omega (arith, length-run_from 1 n, from, to) in
    let number : 1 + (p - 1) ≡ p = omega (arith, from) in
    ap (λ (m : ℕ). get_or (xs ++ map f (run_from 1 n)) m 0) place ∙ get_or-append-add xs (map f (run_from 1 n)) (p - 1) 0
    ∙ get_or-map f (run_from 1 n) (p - 1) 0 0 below ∙ ap f (get_or-run_from 1 n (p - 1) (omega (arith, from, to)) ∙ number)

-- a column takes n cells
pub length-column : (n : ℕ) (xs : List ℕ) (f : ℕ → ℕ) → length (xs ++ map f (run_from 1 n)) ≡ length xs + n
length-column n xs f = length-append xs (map f (run_from 1 n)) ∙ ap (λ (m : ℕ). length xs + m) (length-map (run_from 1 n) f ∙ length-run_from 1 n)

-- a list
pub list-read : (row : List ℕ) (k : ℕ) (test : ℕ → Bool) (p : ℕ) → slice_index row k ≡ list_of 16 test → 1 ≤ p → p ≤ 16 →
    names (list_in row k) p ≡ test p
list-read row k test p e from to =
    let small : list_of 16 test < 65536 = list_of-below 16 test in
    let whole : list_of 16 test % 65536 ≡ list_of 16 test = omega arith in
    ap (λ (cell : ℕ). names (cell % 65536) p) e ∙ ap (λ (list : ℕ). names list p) whole ∙ names-list_of 16 p test from to
