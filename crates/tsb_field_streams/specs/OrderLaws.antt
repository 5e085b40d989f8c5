-- What holds of rows that are sorted. Each law here is a clause of a function in src/laws.rt.
use Rattle.std.specs.Prelude.{◌≡◌, ℕ, ◌==◌, List, filter}
use Rattle.tsb_event_text.specs.declared.rows.EventRow.{EventRow}
use Rattle.tsb_field_streams.specs.Order.{IsInOrder, sorted, time_of}

-- the rows of this moment
abbrev pub rows_at : ℕ → List EventRow → List EventRow
rows_at moment rows = filter (λ row. time_of row == moment) rows

-- sorted rows are in the order of time
abbrev pub AreInOrder : Type 0
AreInOrder = (rows : List EventRow) → IsInOrder (sorted rows)

-- of each moment they have the rows that came, as they came
abbrev pub StayAsTheyCame : Type 0
StayAsTheyCame = (rows : List EventRow) (moment : ℕ) → rows_at moment (sorted rows) ≡ rows_at moment rows

-- rows that are in order stay as they are
abbrev pub StayInOrder : Type 0
StayInOrder = (rows : List EventRow) → IsInOrder rows → sorted rows ≡ rows
