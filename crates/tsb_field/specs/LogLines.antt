-- The lines in which `log` tells what it read, each with its end.
use Rattle.std.specs.Prelude.{◌≡◌, ◌⊎◌, ℕ, ◌==◌, ◌&&◌, ◌||◌, nat_lt, not, Bool, true, false, List, [], ◌++◌, if◌then◌else◌, Option, Some, None, codes, decimal}
use Rattle.tsb_event_text.specs.TimeForms.{time_form_word}
use Rattle.tsb_event_text.specs.Times.{moment_of}
use Rattle.tsb_event_text.specs.Written.{IsWritten}
use Rattle.tsb_event_text.specs.declared.time_forms.TimeForm.{TimeForm}
use Rattle.tsb_event_text.specs.declared.time_forms.TimeForm.TheVariants.{YearFirst}
use Rattle.tsb_field_streams.specs.Channels.{channels_text}
use Rattle.tsb_field_streams.specs.Devices.{are_several, devices_text}
use Rattle.tsb_field_streams.specs.declared.filter.channels.Channels.{Channels}
use Rattle.tsb_field_streams.specs.declared.filter.gaps.Gaps.{Gaps}
use Rattle.tsb_field_streams.specs.declared.filter.LeftOut.{LeftOut}
use Rattle.tsb_field_streams.specs.declared.filter.Summary.{Summary}
use Rattle.tsb_words.specs.declared.field_files.Manner.{Manner}

-- lines were passed over, and among them no header and no row was found
abbrev pub is_lost : LeftOut → Bool
is_lost left_out = nat_lt 0 left_out.passed && not left_out.found

-- ## The form of times

-- the line of a form
abbrev pub is_told : TimeForm → List ℕ
is_told form = codes "times: " ++ (time_form_word form ++ codes ", by the first row\n")

-- the form of times is told where the first row said it, and it is another than the plain one
abbrev pub form_line : Option TimeForm → Option TimeForm → List ℕ
form_line None (Some YearFirst) = []
form_line None (Some form) = is_told form
form_line asked found = []

-- zones of times have a line where a row that counts says its own, and none is asked for: they are passed over
abbrev pub zones_line : Bool → List ℕ
zones_line zoned = if zoned then codes "times: their zones are passed over (give that of --from, as --zone=-07:00)\n" else []

-- ## What was left out

-- nothing was left out
abbrev pub is_nothing : LeftOut → Bool
is_nothing left_out = left_out.of_other_devices == 0 && (left_out.without_input == 0 && left_out.passed == 0)

-- how many rows of other devices, and how many events of channels without an input
abbrev pub left_out_begin : LeftOut → List ℕ
left_out_begin left_out =
    codes "left out: " ++ (decimal left_out.of_other_devices ++ (codes " rows of other devices, " ++ (decimal left_out.without_input
    ++ codes " events of channels without an input")))

-- how many lines were passed over
abbrev pub left_out_end : ℕ → List ℕ
left_out_end lines = codes ", " ++ (decimal lines ++ codes " lines that are no rows\n")

-- the line of what was left out, with the first of these channels
abbrev pub left_out_line : LeftOut → Channels → List ℕ
left_out_line left_out channels = left_out_begin left_out ++ (channels_text channels ++ left_out_end left_out.passed)

-- what was left out is told, where it was something
abbrev pub left_out_text : LeftOut → Channels → List ℕ
left_out_text left_out channels = if is_nothing left_out then [] else left_out_line left_out channels

-- ## How much was read

-- a time that is read as this moment; a question mark, where no year of four digits has it
abbrev pub IsTime : ℕ → List ℕ → Type 0
IsTime nanos text = (moment_of text ≡ Some (record { nanos = nanos })) ⊎ ((IsWritten (record { nanos = nanos }) → ⊥) × (text ≡ codes "?"))

-- how many rows were read
abbrev pub span_begin : ℕ → List ℕ
span_begin rows = codes "read: " ++ (decimal rows ++ codes " rows from ")

-- of how many channels events were read
abbrev pub span_end : ℕ → List ℕ
span_end channels = codes ", events of " ++ (decimal channels ++ codes " channels\n")

-- the line of so many rows between these times, with events of so many channels
abbrev pub span_line : Summary → List ℕ → List ℕ → List ℕ
span_line summary first last = span_begin summary.rows ++ (first ++ (codes " to " ++ (last ++ span_end summary.channels)))

-- that line, with the times of the first and the last row
abbrev pub IsSpan : Summary → List ℕ → Type 0
IsSpan summary text = (first : List ℕ) × (last : List ℕ) × IsTime summary.first first × IsTime summary.last last × (text ≡ span_line summary first last)

-- the line of how much was read, where it was nothing or something
abbrev pub IsCount : Bool → Summary → List ℕ → Type 0
IsCount true summary text = text ≡ codes "read: 0 rows\n"
IsCount false summary text = IsSpan summary text

-- how much was read is told where it is asked for
abbrev pub IsCounted : Bool → Summary → List ℕ → Type 0
IsCounted false summary text = text ≡ []
IsCounted true summary text = IsCount (summary.rows == 0) summary text

-- ## Gaps

-- in how many gaps no row counted
abbrev pub gaps_begin : ℕ → List ℕ
gaps_begin count = codes "gaps: " ++ (decimal count ++ codes " of a minute or more without a row that counts, the longest from ")

-- the line of so many gaps, the longest between these times
abbrev pub gaps_line : ℕ → List ℕ → List ℕ → List ℕ
gaps_line count begin end = gaps_begin count ++ (begin ++ (codes " to " ++ (end ++ codes "\n")))

-- that line, with the times of the rows before and after the longest
abbrev pub IsGapsLine : Gaps → List ℕ → Type 0
IsGapsLine gaps text = (begin : List ℕ) × (end : List ℕ) × IsTime gaps.begin begin × IsTime gaps.end end × (text ≡ gaps_line gaps.count begin end)

-- the line of gaps, or none
abbrev pub HasGapsLine : Bool → Gaps → List ℕ → Type 0
HasGapsLine false gaps text = text ≡ []
HasGapsLine true gaps text = IsGapsLine gaps text

-- gaps have a line where it is asked for how much was read, and there are any
abbrev pub AreGaps : Bool → Gaps → List ℕ → Type 0
AreGaps counts gaps text = HasGapsLine (counts && nat_lt 0 gaps.count) gaps text

-- ## What is missing

-- no row counted, or no input had an event from tick 1 on: this is told, unless it may be so
abbrev pub verdict_line : Manner → Summary → List ℕ
verdict_line manner summary =
    if manner.may_be_empty || summary.heard then []
    else if summary.rows == 0 then codes "events: no row counts (give --allow-empty where that is right)\n"
    else codes "events: no event of an input from --from on (give --allow-empty where that is right)\n"

-- and the program ends with 1, as it does where rows of several devices counted and none was asked for: the log mixes
-- their events
abbrev pub status_of : Manner → Summary → ℕ
status_of manner summary = if (manner.may_be_empty || summary.heard) && not (are_several summary.devices) then 0 else 1

-- ## All of it

-- the lines that tell what was read
abbrev pub IsReport : Manner → Summary → List ℕ → Type 0
IsReport manner summary text =
    (counted : List ℕ) × (gaps : List ℕ) × IsCounted manner.counts summary counted × AreGaps manner.counts summary.gaps gaps
    × (text
    ≡ form_line manner.times summary.times
    ++ (zones_line summary.zoned
    ++ (left_out_text summary.left_out summary.unwired ++ (counted ++ (gaps ++ (devices_text summary.devices ++ verdict_line manner summary))))))
