-- What holds of every difference of two rows of cells, in words that do not retrace how it is found. Each law
-- here is the contract of a function in src/laws.rt.
use Rattle.std.specs.Prelude.{◌≡◌, ◌≢◌, ◌↔◌, ℕ, ◌+◌, ◌<◌, List, ◌++◌, length, slice_get, Some, Contains, AllPairs}
use Rattle.tsb_cells.specs.Diff.{diff_from, diff, apply_diff, AreWithin, shifted, part}

-- the cell `i` held `v` before, and now it holds something else
pub record IsChange (before now : List ℕ) (i v : ℕ) : Type 0 where
  pub was : slice_get before i ≡ Some v
  pub changed : slice_get now i ≢ Some v

-- an entry stands in the difference exactly where its cell changed, with what the cell held before
abbrev pub TellsEachChange : Type 0
TellsEachChange = (before now : List ℕ) → length before ≡ length now →
    (i v : ℕ) → Contains (diff before now) (i, v) ↔ IsChange before now i v

-- each entry's cell has a lower number than those of all later entries
abbrev pub Ascends : Type 0
Ascends = (before now : List ℕ) → AllPairs (λ earlier later. earlier.0 < later.0) (diff before now)

-- the difference gives back what the row was
abbrev pub GivesBack : Type 0
GivesBack = (before now : List ℕ) → length before ≡ length now → apply_diff now (diff before now) ≡ before

-- where the cells are numbered from a greater number, the entries are the same, at greater numbers
abbrev pub Shifts : Type 0
Shifts = (offset i : ℕ) (before now : List ℕ) →
    diff_from (offset + i) before now ≡ shifted offset (diff_from i before now)

-- the difference of two rows side by side is that of the first row, and then that of the second, shifted
abbrev pub Joins : Type 0
Joins = (first second first_now second_now : List ℕ) → length first ≡ length first_now →
    diff (first ++ second) (first_now ++ second_now)
    ≡ diff first first_now ++ shifted (length first) (diff second second_now)

-- entries that are put into two rows side by side are put into each row by its own part
abbrev pub AppliesByParts : Type 0
AppliesByParts = (first second : List ℕ) (es : List (ℕ × ℕ)) → AreWithin (length first + length second) es →
    apply_diff (first ++ second) es
    ≡ apply_diff first (part 0 (length first) es) ++ apply_diff second (part (length first) (length second) es)

-- the parts of the difference of two rows side by side are the rows' own differences
pub record PartsAreOwn (first second first_now second_now : List ℕ) : Type 0 where
  pub first_part : part 0 (length first) (diff (first ++ second) (first_now ++ second_now)) ≡ diff first first_now
  pub second_part : part (length first) (length second) (diff (first ++ second) (first_now ++ second_now)) ≡ diff second second_now

-- so it is of all rows whose lengths stay
abbrev pub HasOwnParts : Type 0
HasOwnParts = (first second first_now second_now : List ℕ) →
    length first ≡ length first_now → length second ≡ length second_now → PartsAreOwn first second first_now second_now
