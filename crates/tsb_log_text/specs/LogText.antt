-- The text of a log: for each row a line of 38 bytes, and its line feed.
use Rattle.std.specs.Prelude.{ℕ, zero, suc, ◌^◌, ◌%◌, ◌<◌, ◌≤◌, Bool, true, false, List, [], ◌∷◌, ◌++◌}
use Rattle.tsb_lines.specs.Digits.{seven_digits}
use Rattle.tsb_types.specs.Sets.{has_number, set_of_list}
use Rattle.tsb_types.specs.declared.limits.TheConstants.{TICKS}
use Rattle.tsb_types.specs.declared.detector_set.DetectorSet.{DetectorSet}
use Rattle.tsb_types.specs.declared.number_set.NumberSet.{NumberSet}
use Rattle.tsb_types.specs.declared.row.Row.{Row}
use Rattle.tsb_log_text.specs.declared.log.LogRow.{LogRow}

-- 1 for an input that is on, and 0 for one that is off
abbrev pub mark : Bool → ℕ
mark true = 49
mark false = 48

-- the marks of n inputs, of which this test says from 0 which are on
abbrev pub marks : ℕ → (ℕ → Bool) → List ℕ
marks zero on = []
marks (suc n) on = mark (on 0) ∷ marks n (λ k. on (suc k))

-- the marks of the first n numbers of a set
abbrev pub set_marks : ℕ → NumberSet → List ℕ
set_marks n set = marks n (λ k. has_number set (suc k))

-- those of a set of vehicle detectors that are 1 to 16, which a row in digits has
abbrev pub first_detectors : DetectorSet → NumberSet
first_detectors on = set_of_list (on.word % 65536)

-- the line of a row
unfoldable pub row_line : LogRow → List ℕ
row_line r =
    seven_digits r.tick ++ (32 ∷ set_marks 16 (first_detectors r.row.vehicles) ++ (32 ∷ set_marks 8 r.row.pedestrians ++ (32 ∷ set_marks 4 r.row.preempts)))

-- the text of these rows
unfoldable pub log_text : List LogRow → List ℕ
log_text [] = []
log_text (r ∷ rs) = row_line r ++ 10 ∷ log_text rs

-- ## Rows that a line can spell

-- the numbers of its inputs are those that there are
pub record IsFit (row : Row) : Type 0 where
  pub vehicles : row.vehicles.word < 2 ^ 16
  pub pedestrians : row.pedestrians.word < 2 ^ 8
  pub preempts : row.preempts.word < 2 ^ 4

-- and its tick is one of a bench
pub record IsRow (r : LogRow) : Type 0 where
  pub from_one : 1 ≤ r.tick
  pub within : r.tick ≤ TICKS
  pub fit : IsFit r.row

-- all of them are so
abbrev pub AreRows : List LogRow → Type 0
AreRows [] = Unit {0}
AreRows (r ∷ rs) = IsRow r × AreRows rs
