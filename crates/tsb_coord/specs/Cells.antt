-- The cells of coordination, and how they are read.
--
-- | Cell | What |
-- |---|---|
-- | 0 | the pattern that is selected, 1 to 16; 0 for none, which is free operation |
-- | 1 | the tick number at which it was selected, where its local counter was not in step; else 0 |
-- | 2 | how many ticks the local counter was ahead of the one in step then; 0 for in step |
-- | 3 | the midnight that it counts from: how long after it tick number 0 comes, and eight days; 0 without a clock |
-- | 4 | the day of tick number 0, counted from 1999-12-24; 0 without a clock |
-- | 5 | the tenths of a second since the midnight of that day |
use Rattle.std.specs.Prelude.{◌≡◌, ℕ, ◌+◌, ◌*◌, ◌/◌, ◌%◌, ◌<◌, ◌≤◌, List, [], ◌∷◌, length, Option, slice_index}
use Rattle.tsb_objects.specs.tsb_types.declared.clock_time.TheConstants.{DAY, FIRST_MOMENT, LAST_DAY}
use Rattle.tsb_objects.specs.tsb_types.Lists.{or_number}
use Rattle.tsb_objects.specs.tsb_types.declared.limits.TheConstants.{TICKS}
use Rattle.tsb_objects.specs.tsb_plan.Parts.{unless_zero}
use Rattle.tsb_coord.specs.declared.TheConstants.{CELLS}
use Rattle.tsb_coord.specs.Correction.{Correction}

-- the pattern that is selected
abbrev pub pattern_in : List ℕ → Option ℕ
pattern_in row = unless_zero (slice_index row 0)

-- how its local counter comes into step
abbrev pub correction_in : List ℕ → Correction
correction_in row = record { since = slice_index row 1; ahead = slice_index row 2; midnight = slice_index row 3 }

-- the moment of tick number 0, where a clock is set
abbrev pub start_in : List ℕ → Option ℕ
start_in row = unless_zero (slice_index row 4 * DAY + slice_index row 5)

-- THE TABLE: the cells of the pattern that is selected, and of the clock
abbrev pub pattern_cells : Option ℕ → Correction → Option ℕ → List ℕ
pattern_cells selected c start =
    or_number selected 0 ∷ c.since ∷ c.ahead ∷ c.midnight ∷ or_number start 0 / DAY ∷ or_number start 0 % DAY ∷ []

-- the rows that coordination can hold, at any tick
pub record IsBy (row : List ℕ) : Type 0 where
  pub full : length row ≡ CELLS
  pub pattern : slice_index row 0 ≤ 16
  pub since : slice_index row 1 ≤ TICKS
  pub ahead : slice_index row 2 ≤ 2550
  pub midnight : slice_index row 3 < FIRST_MOMENT + DAY
  pub day : slice_index row 4 ≤ LAST_DAY
  pub time : slice_index row 5 < DAY
