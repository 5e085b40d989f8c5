-- The cells of one value among the cells of a bank: reading them as a row, and the cells after a row is put
-- in their place.
use Rattle.std.specs.Prelude.{ℕ, ◌+◌, List, ◌++◌, length, take, drop}

-- the `w` cells from the cell `at` on
abbrev pub row_at : ℕ → List ℕ → ℕ → List ℕ
row_at w cells at = take w (drop at cells)

-- the cells with `row` in place of those from the cell `at` on
abbrev pub with_row : List ℕ → ℕ → List ℕ → List ℕ
with_row cells at row = take at cells ++ row ++ drop (at + length row) cells
