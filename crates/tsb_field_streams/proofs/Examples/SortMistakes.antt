-- One-line mistakes, each with an example that tells it from the definition.
use Rattle.std.specs.Prelude.{◌≡◌, ℕ, ◌*◌, true, List, [], ◌∷◌, Option, Some, None, Result, Ok, Err, refl}
use Rattle.std.proofs.Common.{arith}
use Rattle.tsb_event_text.specs.declared.rows.EventRow.{EventRow}
use Rattle.tsb_field_streams.specs.Order.{first_before, rest_before}
use Rattle.tsb_field_streams.specs.declared.error.FilterError.{FilterError}
use Rattle.tsb_field_streams.specs.Filtering.{Given, Stand, start, with_given, with_held}
use Rattle.tsb_field_streams.specs.SortLaws.{AreWithin, rows_behind, rows_taken}

-- a row that says nothing of an input, of so many seconds
abbrev pub row_at : ℕ → EventRow
row_at second = record { ours = true; moment = record { nanos = second * 1000000000 }; code = 1; parameter = 2 }

-- the third row is a second late
abbrev pub late : List EventRow
late = row_at 5 ∷ (row_at 7 ∷ (row_at 6 ∷ []))

-- rows may be a minute late
abbrev pub minute : Given
minute = record { from = 0; device = None; times = None; zone = None; window = Some 60; wires = [] }

are_within : AreWithin 60 0 late
are_within = (omega arith, (omega arith, (omega arith, tt)))

-- how many rows counted, and the moments of the first and the last of them
abbrev pub span_of : Result Stand FilterError → Option (ℕ × (ℕ × ℕ))
span_of (Err e) = None
span_of (Ok s) = Some (s.counted, (s.first, s.last))

are_taken : span_of (rows_taken minute late) ≡ Some (3, (5000000000, 7000000000))
are_taken = refl

-- ## A row is taken once a later one is read

-- what a row comes to
abbrev pub early : Stand → EventRow → Result Stand FilterError
early s row = with_given minute 0 (record (with_held s row) { held = rest_before (with_held s row).latest (with_held s row).held }) (first_before (with_held s row).latest (with_held s row).held)

abbrev pub early_behind : Result Stand FilterError → List EventRow → Result Stand FilterError
early_behind (Err e) rows = Err e
early_behind (Ok s) [] = Ok s
early_behind (Ok s) (row ∷ rows) = early_behind (early s row) rows

-- of four rows the last is taken as the third of them is out
abbrev pub four : List EventRow
four = row_at 5 ∷ (row_at 7 ∷ (row_at 8 ∷ (row_at 6 ∷ [])))

are_taken_too : span_of (rows_taken minute four) ≡ Some (4, (5000000000, 8000000000))
are_taken_too = refl

would_be_late : span_of (early_behind (Ok (start minute)) four) ≡ None
would_be_late = refl

-- ## Rows that are still held at the end are lost

would_be_lost : span_of (rows_behind minute (Ok (start minute)) late) ≡ Some (0, (0, 0))
would_be_lost = refl
