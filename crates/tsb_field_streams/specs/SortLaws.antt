-- What holds of rows that are sorted within a window. Each law here is a clause of a function in src/laws.rt.
use Rattle.std.specs.Prelude.{◌≡◌, ℕ, ◌≤◌, max, List, [], ◌∷◌, Some, None, Result, Ok, Err}
use Rattle.tsb_event_text.specs.declared.rows.EventRow.{EventRow}
use Rattle.tsb_field_streams.specs.Order.{IsInOrder, sorted, time_of}
use Rattle.tsb_field_streams.specs.declared.error.FilterError.{FilterError}
use Rattle.tsb_field_streams.specs.declared.error.FilterError.TheVariants.{TooManyRows}
use Rattle.tsb_field_streams.specs.Filtering.{Given, Stand, bound_of, start, with_counted}
use Rattle.tsb_field_streams.specs.Lines.{ended}

-- the same is asked for, but that rows are to be in order
abbrev pub unsorted : Given → Given
unsorted g = record g { window = None }

-- what rows that count come to, one after another; the number of their line, here 0, is told of faults alone
abbrev pub rows_behind : Given → Result Stand FilterError → List EventRow → Result Stand FilterError
rows_behind g (Err e) rows = Err e
rows_behind g (Ok s) [] = Ok s
rows_behind g (Ok s) (row ∷ rows) = rows_behind g (with_counted g 0 s row g.window) rows

-- what they come to where no line follows
abbrev pub rows_taken : Given → List EventRow → Result Stand FilterError
rows_taken g rows = ended g (rows_behind g (Ok (start g)) rows)

-- all of it that is told: but for rows that are held, and the latest of those that were
abbrev pub told : Result Stand FilterError → Result Stand FilterError
told (Ok s) = Ok (record s { held = []; latest = 0 })
told (Err e) = Err e

-- none of the rows is further behind the latest row above it than so many seconds, where that one was of this moment
abbrev pub AreWithin : ℕ → ℕ → List EventRow → Type 0
AreWithin seconds latest [] = Unit {0}
AreWithin seconds latest (row ∷ rows) = (bound_of latest seconds ≤ time_of row) × AreWithin seconds (max latest (time_of row)) rows

-- not more rows come within the window than may be held
abbrev pub Fit : Given → List EventRow → Type 0
Fit g rows = rows_taken g rows ≡ Err (TooManyRows 0) → ⊥

-- rows within the window come to what the same rows come to, sorted by time
abbrev pub TellWhatSortedRowsTell : Type 0
TellWhatSortedRowsTell = (g : Given) (seconds : ℕ) (rows : List EventRow) → g.window ≡ Some seconds → AreWithin seconds 0 rows → Fit g rows
    → told (rows_taken g rows) ≡ told (rows_taken (unsorted g) (sorted rows))

-- and rows in order to what they come to where they are not sorted
abbrev pub TellTheSameInOrder : Type 0
TellTheSameInOrder = (g : Given) (seconds : ℕ) (rows : List EventRow) → g.window ≡ Some seconds → IsInOrder rows → Fit g rows
    → told (rows_taken g rows) ≡ told (rows_taken (unsorted g) rows)
