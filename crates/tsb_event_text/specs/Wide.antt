-- Rows as exports have them: with spaces around fields, whole numbers spelled with zeros behind a point, times in one of
-- several forms.
use Rattle.std.specs.Prelude.{ℕ, ◌==◌, ◌&&◌, ◌||◌, Bool, true, false, List, [], ◌∷◌, if◌then◌else◌, Option, Some, None, codes}
use Rattle.std.specs.Str.{bytes_eq}
use Rattle.tsb_lines.specs.Lines.{is_blank}
use Rattle.tsb_lines.specs.Words.{number_of}
use Rattle.tsb_event_text.specs.declared.columns.Columns.{Columns}
use Rattle.tsb_event_text.specs.declared.time_forms.TimeForm.{TimeForm}
use Rattle.tsb_event_text.specs.declared.times.Moment.{Moment}
use Rattle.tsb_event_text.specs.declared.wide.WideRow.{WideRow}
use Rattle.tsb_event_text.specs.declared.zones.Zone.{Zone}
use Rattle.tsb_event_text.specs.Columns.{header_of, mark_of}
use Rattle.tsb_event_text.specs.Events.{has_byte}
use Rattle.tsb_event_text.specs.Fields.{device_in, field_in, fields_of}
use Rattle.tsb_event_text.specs.Rows.{is_asked}
use Rattle.tsb_event_text.specs.TimeForms.{before, behind, form_of, is_there, moment_in}

-- ## Fields

-- without the spaces at its beginning
abbrev pub without_front : List ℕ → List ℕ
without_front [] = []
without_front (b ∷ bs) = if b == 32 then without_front bs else b ∷ bs

-- without the spaces at its end
abbrev pub without_end : List ℕ → List ℕ
without_end [] = []
without_end (b ∷ bs) = if is_blank (b ∷ bs) then [] else b ∷ without_end bs

-- without the spaces around it
abbrev pub trimmed : List ℕ → List ℕ
trimmed field = without_end (without_front field)

-- zeros alone
abbrev pub are_zeros : List ℕ → Bool
are_zeros [] = true
are_zeros (b ∷ bs) = if b == 48 then are_zeros bs else false

-- the whole number that a field spells, as `82` or `82.0`
abbrev pub whole_of : List ℕ → Option ℕ
whole_of field = if are_zeros (behind 46 field) then number_of (before 46 field) else None

-- ## Rows

-- the form of a time: this one, where it is known, or else that in which the time itself is one
abbrev pub form_by : Option TimeForm → List ℕ → Option TimeForm
form_by None time = form_of time
form_by (Some form) time = Some form

-- the row of what is said, where its moment and its code are
abbrev pub wide_said : Bool → TimeForm → Option Moment → Option ℕ → Option ℕ → Option WideRow
wide_said ours form (Some moment) (Some code) parameter =
    Some (record { ours = ours; form = form; moment = moment; code = code; parameter = parameter })
wide_said ours form moment code parameter = None

-- the row of a time, where its form is known
abbrev pub wide_timed : Bool → Option TimeForm → Option Zone → List ℕ → Option ℕ → Option ℕ → Option WideRow
wide_timed ours None clock time code parameter = None
wide_timed ours (Some form) clock time code parameter = wide_said ours form (moment_in form clock time) code parameter

-- the row of four fields without spaces around them
abbrev pub wide_fields : Option (List ℕ) → Option TimeForm → Option Zone → List ℕ → List ℕ → List ℕ → List ℕ → Option WideRow
wide_fields asked times zone device time code parameter =
    wide_timed (is_asked asked device) (form_by times time) zone time (whole_of code) (whole_of parameter)

-- the row of four fields, where they are there
abbrev pub wide_with : Option (List ℕ) → Option TimeForm → Option Zone → Option (List ℕ) → Option (List ℕ) → Option (List ℕ) → Option (List ℕ) → Option WideRow
wide_with asked times clock (Some device) (Some time) (Some code) (Some parameter) =
    wide_fields asked times clock (trimmed device) (trimmed time) (trimmed code) (trimmed parameter)
wide_with asked times clock device time code parameter = None

-- the row of a line's fields
abbrev pub wide_in : Columns → Option TimeForm → Option Zone → Option (List ℕ) → Option (List (List ℕ)) → Option WideRow
wide_in columns times zone asked fields =
    wide_with asked times zone (device_in fields columns.device) (field_in fields columns.time) (field_in fields columns.code)
    (field_in fields columns.parameter)

-- the row that a line spells, with its columns in these places and times in this form, or in that of its own time, and by
-- the clock of this zone where one is asked for
unfoldable pub wide_of : Columns → Option TimeForm → Option Zone → Option (List ℕ) → List ℕ → Option WideRow
wide_of columns times zone asked line = wide_in columns times zone asked (fields_of (mark_of columns.separator) line)

-- ## Lines that are passed over

-- a mark of the line that databases draw below a header: a hyphen, a separator, a space, a plus or a bar
abbrev pub is_mark : ℕ → Bool
is_mark b = b == 45 || (b == 44 || (b == 59 || (b == 9 || (b == 32 || (b == 43 || b == 124)))))

-- such marks alone
abbrev pub are_marks : List ℕ → Bool
are_marks [] = true
are_marks (b ∷ bs) = if is_mark b then are_marks bs else false

-- what a database says behind the number of its rows
abbrev pub is_rows : List ℕ → Bool
is_rows text =
    bytes_eq text (codes "rows affected)") || (bytes_eq text (codes "row affected)") || (bytes_eq text (codes "rows)") || bytes_eq text (codes "row)")))

-- a line in which a database counts its rows: `(2 rows affected)`, `(2 rows)`
abbrev pub is_count : List ℕ → Bool
is_count [] = false
is_count (b ∷ line) = b == 40 && (is_there (number_of (before 32 line)) && is_rows (behind 32 line))

-- a line that a database draws or counts its rows in, or a header
unfoldable pub is_passed : List ℕ → Bool
is_passed line = (has_byte 45 line && are_marks line) || (is_count line || is_there (header_of line))
