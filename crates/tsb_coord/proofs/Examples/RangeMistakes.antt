-- What the laws of the cells of coordination refuse, by computing, and beside it what the definitions make of cells in
-- range.
use Rattle.std.proofs.Common.{◌≡◌, ℕ, List, [], ◌∷◌, slice_index, Option, Some, None, refl, arith}
use Rattle.tsb_coord.specs.Cells.{pattern_in, correction_in, start_in, pattern_cells, IsBy}
use Rattle.tsb_coord.specs.Correction.{in_step}

-- ## Rows are told: a row with one cell more

-- pattern 16, selected at tick 1000 with a counter that is 200 ticks ahead; tick number 0 was at 7:00 of 2000-01-01
abbrev pub a_row : List ℕ
a_row = 16 ∷ 1000 ∷ 200 ∷ 7164000 ∷ 8 ∷ 252000 ∷ []

can_be : IsBy a_row
can_be = record {
  full = refl;
  pattern = omega arith;
  since = omega arith;
  ahead = omega arith;
  midnight = omega arith;
  day = omega arith;
  time = omega arith;
}

is_told : pattern_cells (pattern_in a_row) (correction_in a_row) (start_in a_row) ≡ a_row
is_told = refl

abbrev pub longer : List ℕ
longer = 16 ∷ 1000 ∷ 200 ∷ 7164000 ∷ 8 ∷ 252000 ∷ 7 ∷ []

would_lose_it : pattern_cells (pattern_in longer) (correction_in longer) (start_in longer) ≡ a_row
would_lose_it = refl

-- ## States are read: a cell of 0 that is read as a number

abbrev pub read_plainly : List ℕ → Option ℕ
read_plainly row = Some (slice_index row 0)

reads_none : pattern_in (pattern_cells None in_step None) ≡ None
reads_none = refl

would_read_0 : read_plainly (pattern_cells None in_step None) ≡ Some 0
would_read_0 = refl
