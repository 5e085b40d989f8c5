-- Lines of events, written.
use Rattle.std.specs.Prelude.{◌≡◌, ◌≢◌, ℕ, ◌==◌, ◌&&◌, ◌||◌, ◌^◌, ◌<◌, ◌≤◌, nat_le, not, Bool, true, false, List, [], ◌∷◌, ◌++◌, length, if◌then◌else◌, Option, Some}
use Rattle.std.specs.Fmt.{decimal}
use Rattle.tsb_lines.specs.Lines.{is_comment, is_skipped}
use Rattle.tsb_event_text.specs.declared.events.TheConstants.{LONGEST_DEVICE}
use Rattle.tsb_event_text.specs.declared.times.Moment.{Moment}
use Rattle.tsb_event_text.specs.Columns.{usual_columns}
use Rattle.tsb_event_text.specs.Rows.{is_asked, row_of}
use Rattle.tsb_event_text.specs.Times.{moment_of}

-- one of these bytes is this one
abbrev pub has_byte : ℕ → List ℕ → Bool
has_byte byte [] = false
has_byte byte (b ∷ bs) = b == byte || has_byte byte bs

-- a line can name the device: it has no double quote and no end of a line, and is not too long
abbrev pub can_be_written : List ℕ → Bool
can_be_written device =
    not (has_byte 34 device) && not (has_byte 10 device) && not (has_byte 13 device) && nat_le (length device) LONGEST_DEVICE

-- a device as a field: in double quotes where it has a comma or begins with #, by which readers tell a comment
abbrev pub device_field : List ℕ → List ℕ
device_field device = if has_byte 44 device || is_comment device then 34 ∷ (device ++ 34 ∷ []) else device

-- the line of an event without its feed, with this text of its time
abbrev pub event_row_text : List ℕ → List ℕ → ℕ → ℕ → List ℕ
event_row_text device time code parameter = device_field device ++ 44 ∷ (time ++ 44 ∷ (decimal code ++ 44 ∷ decimal parameter))

-- the line of an event
abbrev pub event_text : List ℕ → List ℕ → ℕ → ℕ → List ℕ
event_text device time code parameter = event_row_text device time code parameter ++ 10 ∷ []

-- none of these bytes is a comma or a double quote
abbrev pub IsPlain : List ℕ → Type 0
IsPlain [] = Unit {0}
IsPlain (b ∷ bs) = (b ≢ 44) × (b ≢ 34) × IsPlain bs

-- readers of logs take a row: they do not skip it, and it has at most 1,000 bytes
abbrev pub IsTaken : List ℕ → Type 0
IsTaken row = (is_skipped row ≡ false) × (length row ≤ 1000)

-- a line of a device that a line can name, of a time that is read as this moment, and of a code and a parameter, is
-- read as that event, and readers of logs take it
abbrev pub AreReadAgain : Type 0
AreReadAgain = (device time : List ℕ) (moment : Moment) (code parameter : ℕ) (asked : Option (List ℕ))
    → can_be_written device ≡ true → IsPlain time → moment_of time ≡ Some moment → code < 2 ^ 32 → parameter < 2 ^ 32
    → (row_of usual_columns asked (event_row_text device time code parameter)
    ≡ Some (record { ours = is_asked asked device; moment = moment; code = code; parameter = parameter }))
    × IsTaken (event_row_text device time code parameter)
