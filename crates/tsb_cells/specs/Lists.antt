-- Rows of cells, cell by cell.
use Rattle.std.specs.Prelude.{◌≡◌, ◌≢◌, ℕ, ◌+◌, List, slice_index}

-- the cell `at` may change, and no other
abbrev pub Elsewhere : ℕ → List ℕ → List ℕ → Type 0
Elsewhere at old new = (j : ℕ) → j ≢ at → slice_index new j ≡ slice_index old j

-- the cells `at` and `at + 1` may change, and no other
abbrev pub ElsewhereThan : ℕ → List ℕ → List ℕ → Type 0
ElsewhereThan at old new = (j : ℕ) → j ≢ at → j ≢ at + 1 → slice_index new j ≡ slice_index old j
