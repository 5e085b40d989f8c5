-- The difference of two rows of cells: the cells that differ, each with its value before. How it is put back
-- into a row, and how the differences of several rows stand side by side under one numbering of the cells.
use Rattle.std.specs.Prelude.{ℕ, ◌+◌, ◌-◌, ◌<◌, ◌==◌, ◌&&◌, nat_le, nat_lt, List, [], ◌∷◌, map, if◌then◌else◌, slice_set, All}

-- the cells that differ, each with its value before, in ascending order, the cells numbered from `i`
abbrev pub diff_from : ℕ → List ℕ → List ℕ → List (ℕ × ℕ)
diff_from i [] now = []
diff_from i (x ∷ before) [] = []
diff_from i (x ∷ before) (y ∷ now) =
    if x == y then diff_from (i + 1) before now else ((i, x) ∷ diff_from (i + 1) before now)

-- each cell that differs, once, with its value before, in ascending order
abbrev pub diff : List ℕ → List ℕ → List (ℕ × ℕ)
diff before now = diff_from 0 before now

-- the cells with each value of the list put into its cell
abbrev pub apply_diff : List ℕ → List (ℕ × ℕ) → List ℕ
apply_diff cells [] = cells
apply_diff cells (e ∷ es) = apply_diff (slice_set cells e.0 e.1) es

-- each entry names one of the first `n` cells
abbrev pub AreWithin : ℕ → List (ℕ × ℕ) → Type 0
AreWithin n es = All (λ e. e.0 < n) es

-- the entries, each cell's number greater by `offset`
abbrev pub shifted : ℕ → List (ℕ × ℕ) → List (ℕ × ℕ)
shifted offset es = map (λ e. (offset + e.0, e.1)) es

-- the entries of the `n` cells from `offset` on, the cells numbered from 0
abbrev pub part : ℕ → ℕ → List (ℕ × ℕ) → List (ℕ × ℕ)
part offset n [] = []
part offset n (e ∷ es) =
    if nat_le offset e.0 && nat_lt e.0 (offset + n) then (e.0 - offset, e.1) ∷ part offset n es else part offset n es
