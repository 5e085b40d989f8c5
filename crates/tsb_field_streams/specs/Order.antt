-- Rows in the order of time.
use Rattle.std.specs.Prelude.{ℕ, ◌≤◌, nat_lt, List, [], ◌∷◌, if◌then◌else◌, Option, Some, None}
use Rattle.tsb_event_text.specs.declared.rows.EventRow.{EventRow}

-- when a row happened, in nanoseconds as a moment counts them
abbrev pub time_of : EventRow → ℕ
time_of row = row.moment.nanos

-- among rows in the order of time one more, behind those of its moment
abbrev pub placed : EventRow → List EventRow → List EventRow
placed row [] = row ∷ []
placed row (held ∷ rest) = if nat_lt (time_of row) (time_of held) then row ∷ (held ∷ rest) else held ∷ placed row rest

-- among these rows, more of them, one after another
abbrev pub placed_all : List EventRow → List EventRow → List EventRow
placed_all held [] = held
placed_all held (row ∷ rows) = placed_all (placed row held) rows

-- rows in the order of time, those of one moment as they came
abbrev pub sorted : List EventRow → List EventRow
sorted rows = placed_all [] rows

-- none of the rows is before this moment, or before the row above it
abbrev pub IsInOrderFrom : ℕ → List EventRow → Type 0
IsInOrderFrom moment [] = Unit {0}
IsInOrderFrom moment (row ∷ rows) = (moment ≤ time_of row) × IsInOrderFrom (time_of row) rows

-- no row is before the row above it
abbrev pub IsInOrder : List EventRow → Type 0
IsInOrder rows = IsInOrderFrom 0 rows

-- the first row
abbrev pub first_of : List EventRow → Option EventRow
first_of [] = None
first_of (row ∷ rest) = Some row

-- the rows behind it
abbrev pub rest_of : List EventRow → List EventRow
rest_of [] = []
rest_of (row ∷ rest) = rest

-- the first row, where it is before this moment
abbrev pub first_before : ℕ → List EventRow → Option EventRow
first_before moment [] = None
first_before moment (row ∷ rest) = if nat_lt (time_of row) moment then Some row else None

-- the rows without it
abbrev pub rest_before : ℕ → List EventRow → List EventRow
rest_before moment [] = []
rest_before moment (row ∷ rest) = if nat_lt (time_of row) moment then rest else row ∷ rest
