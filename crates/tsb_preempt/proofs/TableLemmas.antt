-- The cells of a table around its column: the first two and the last four.
use Rattle.std.proofs.Common.{◌≡◌, ℕ, ◌+◌, ◌-◌, ◌≤◌, List, [], ◌∷◌, ◌++◌, length, take, drop, slice_index, refl, sym, ap, ap₂, ◌∙◌, arith, length-drop, take-append-drop}
use Rattle.std.proofs.lemmas.List.{get_or-drop, get_or-append-add}
use Rattle.tsb_cells.proofs.TableLemmas.{first-two}

-- the first two cells
pub front : (row : List ℕ) (a b : ℕ) → 2 ≤ length row → a ≡ slice_index row 0 → b ≡ slice_index row 1 → (a ∷ b ∷ []) ≡ take 2 row
front row a b full p q = ap₂ (λ (x y : ℕ). x ∷ y ∷ []) p q ∙ first-two row full

four : (row : List ℕ) → length row ≡ 4 → (slice_index row 0 ∷ slice_index row 1 ∷ slice_index row 2 ∷ slice_index row 3 ∷ []) ≡ row
four (a ∷ (b ∷ (c ∷ (d ∷ [])))) full = refl
four row full = absurd (omega arith)

-- the last four cells
pub back : (o : ℕ) (row : List ℕ) → length row ≡ o + 4 →
    (slice_index row o ∷ slice_index row (o + 1) ∷ slice_index row (o + 2) ∷ slice_index row (o + 3) ∷ []) ≡ drop o row
back o row full =
    let rest : length (drop o row) ≡ 4 = omega (arith, full, length-drop o row) in
    let at : (k : ℕ) → slice_index row (o + k) ≡ slice_index (drop o row) k = λ k. sym (get_or-drop o row k 0) in
    let first : slice_index row o ≡ slice_index (drop o row) 0 = ap (λ (k : ℕ). slice_index row k) (let e : o ≡ o + 0 = omega arith in e) ∙ at 0 in
    rw (first, at 1, at 2, at 3) (four (drop o row) rest)

pub joined : (o : ℕ) (row xs ys : List ℕ) → xs ≡ take o row → ys ≡ drop o row → xs ++ ys ≡ row
joined o row xs ys one other = ap₂ (λ (us vs : List ℕ). us ++ vs) one other ∙ take-append-drop o row

-- a cell of the rest
pub rest-read : (xs ys : List ℕ) (o k : ℕ) → length xs ≡ o → slice_index (xs ++ ys) (o + k) ≡ slice_index ys k
rest-read xs ys o k full = ap (λ (m : ℕ). slice_index (xs ++ ys) (m + k)) (sym full) ∙ get_or-append-add xs ys k 0
