-- What a row of events says.
use Rattle.std.specs.Prelude.{ℕ, Bool, true, List, slice_get, Option, Some, None}
use Rattle.std.specs.Str.{bytes_eq}
use Rattle.tsb_lines.specs.Words.{number_of}
use Rattle.tsb_event_text.specs.declared.columns.Columns.{Columns}
use Rattle.tsb_event_text.specs.declared.times.Moment.{Moment}
use Rattle.tsb_event_text.specs.declared.rows.EventRow.{EventRow}
use Rattle.tsb_event_text.specs.Columns.{mark_of}
use Rattle.tsb_event_text.specs.Fields.{device_at, fields_of}
use Rattle.tsb_event_text.specs.Times.{moment_of}

-- a row of this device counts, where that one is asked for; where none is, each row does
abbrev pub is_asked : Option (List ℕ) → List ℕ → Bool
is_asked None device = true
is_asked (Some asked) device = bytes_eq device asked

-- the row, where its time, its code and its parameter are spelled
abbrev pub row_said : Bool → Option Moment → Option ℕ → Option ℕ → Option EventRow
row_said ours (Some moment) (Some code) (Some parameter) =
    Some (record { ours = ours; moment = moment; code = code; parameter = parameter })
row_said ours moment code parameter = None

-- the row of these four fields, where they are there
abbrev pub row_with : Option (List ℕ) → Option (List ℕ) → Option (List ℕ) → Option (List ℕ) → Option (List ℕ) → Option EventRow
row_with asked (Some device) (Some time) (Some code) (Some parameter) =
    row_said (is_asked asked device) (moment_of time) (number_of code) (number_of parameter)
row_with asked device time code parameter = None

-- the row of these fields
abbrev pub row_in : Columns → Option (List ℕ) → Option (List (List ℕ)) → Option EventRow
row_in columns asked None = None
row_in columns asked (Some fields) =
    row_with asked (device_at fields columns.device) (slice_get fields columns.time) (slice_get fields columns.code)
    (slice_get fields columns.parameter)

-- the row that a line spells, with its columns in these places, where the events of this device are asked for
unfoldable pub row_of : Columns → Option (List ℕ) → List ℕ → Option EventRow
row_of columns asked line = row_in columns asked (fields_of (mark_of columns.separator) line)
