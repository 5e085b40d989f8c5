-- What holds of rows in other forms, in words that do not retrace how they are read. Each law here is the contract of a
-- function in src/laws.rt.
use Rattle.std.specs.Prelude.{◌≡◌, ℕ, ◌+◌, ◌-◌, ◌*◌, ◌==◌, ◌<◌, ◌≤◌, ◌^◌, Bool, true, false, List, [], ◌∷◌, Option, Some}
use Rattle.tsb_event_text.specs.declared.columns.Columns.{Columns}
use Rattle.tsb_event_text.specs.declared.columns.Separator.{Separator}
use Rattle.tsb_event_text.specs.declared.time_forms.TimeForm.{TimeForm}
use Rattle.tsb_event_text.specs.declared.zones.Zone.{Zone}
use Rattle.tsb_event_text.specs.Columns.{mark_of, usual_columns, usual_of}
use Rattle.tsb_event_text.specs.Events.{event_row_text, can_be_written, has_byte, IsPlain}
use Rattle.tsb_event_text.specs.Fields.{fields_of, joined}
use Rattle.tsb_event_text.specs.Rows.{row_of}
use Rattle.tsb_event_text.specs.TimeForms.{moved, time_form_named, time_form_word}
use Rattle.tsb_event_text.specs.Wide.{wide_of}

-- ## Separators

-- a field begins with a double quote
abbrev pub is_quoted : List ℕ → Bool
is_quoted [] = false
is_quoted (b ∷ field) = b == 34

-- each of these fields can stand in a line without quotes: it has no mark, and begins with no quote
abbrev pub AreFree : ℕ → List (List ℕ) → Type 0
AreFree mark [] = Unit {0}
AreFree mark (field ∷ fields) = (has_byte mark field ≡ false) × (is_quoted field ≡ false) × AreFree mark fields

-- fields that a separator parts are read as these fields
abbrev pub ArePartedAgain : Type 0
ArePartedAgain = (separator : Separator) (field : List ℕ) (fields : List (List ℕ)) → AreFree (mark_of separator) (field ∷ fields)
    → fields_of (mark_of separator) (joined (mark_of separator) (field ∷ fields)) ≡ Some (field ∷ fields)

-- the same columns in a text with another separator
abbrev pub parted_by : Separator → Columns → Columns
parted_by separator columns =
    record { device = columns.device; time = columns.time; code = columns.code; parameter = columns.parameter; separator = separator }

-- what a row says does not hang on the separator that parts it
abbrev pub AreReadAlike : Type 0
AreReadAlike = (one other : Separator) (columns : Columns) (times : Option TimeForm) (zone : Option Zone) (asked : Option (List ℕ))
    (field : List ℕ) (fields : List (List ℕ)) → AreFree (mark_of one) (field ∷ fields) → AreFree (mark_of other) (field ∷ fields)
    → (row_of (parted_by one columns) asked (joined (mark_of one) (field ∷ fields))
    ≡ row_of (parted_by other columns) asked (joined (mark_of other) (field ∷ fields)))
    × (wide_of (parted_by one columns) times zone asked (joined (mark_of one) (field ∷ fields))
    ≡ wide_of (parted_by other columns) times zone asked (joined (mark_of other) (field ∷ fields)))

-- a text without a header that begins with the line of an event has the usual columns
abbrev pub BeginsAsUsual : Type 0
BeginsAsUsual = (device time : List ℕ) (code parameter : ℕ) → can_be_written device ≡ true → IsPlain time
    → code < 2 ^ 32 → parameter < 2 ^ 32 → usual_of (event_row_text device time code parameter) ≡ usual_columns

-- ## Zones

-- what the clock of a zone shows when that of UTC shows so many nanoseconds
abbrev pub shown_by : Zone → ℕ → ℕ
shown_by zone nanos = (nanos + zone.east * 60000000000) - zone.west * 60000000000

-- one instant is one moment on the clock of the zone that is asked for, whichever zone's clock tells it
abbrev pub AreOneMoment : Type 0
AreOneMoment = (zone one other : Zone) (nanos : ℕ) → one.west * 60000000000 ≤ nanos → other.west * 60000000000 ≤ nanos
    → moved (Some zone) one (shown_by one nanos) ≡ moved (Some zone) other (shown_by other nanos)

-- a clock of the zone that is asked for counts as it shows
abbrev pub OwnClocksStay : Type 0
OwnClocksStay = (zone : Zone) (nanos : ℕ) → moved (Some zone) zone nanos ≡ nanos

-- ## Words

-- the word of a form names it
abbrev pub FormsAreNamed : Type 0
FormsAreNamed = (form : TimeForm) → time_form_named (time_form_word form) ≡ Some form
