-- The line that tells what ended a filter, without its end. Lines of events count from 1.
use Rattle.std.specs.Prelude.{ℕ, ◌+◌, ◌/◌, ◌==◌, ◌||◌, nat_lt, List, [], ◌∷◌, ◌++◌, take, min, map, if◌then◌else◌, codes, decimal, Option, Some, None}
use Rattle.tsb_event_text.specs.declared.columns.Column.{Column}
use Rattle.tsb_event_text.specs.declared.columns.Column.TheVariants.{Device, Time, Code, Parameter}
use Rattle.tsb_event_text.specs.declared.columns.Separator.{Separator}
use Rattle.tsb_event_text.specs.declared.columns.Separator.TheVariants.{Comma, Semicolon, Tab}
use Rattle.tsb_event_text.specs.TimeForms.{time_form_word}
use Rattle.tsb_event_text.specs.declared.faults.ShownField.{ShownField}
use Rattle.tsb_event_text.specs.declared.faults.RowFault.{RowFault}
use Rattle.tsb_event_text.specs.declared.faults.RowFault.TheVariants.{Utf16, Zip, Xml, Binary, Lacks, Quote, Parted, Missing, Ambiguous, NoDay, NoSeconds, OtherForm, NoTime, NoNumber}
use Rattle.tsb_event_text.specs.declared.time_forms.TimeForm.{TimeForm}
use Rattle.tsb_event_text.specs.declared.time_forms.TimeForm.TheVariants.{YearFirst, MonthFirst, DayFirst, Seconds, Milliseconds}
use Rattle.tsb_field_streams.specs.declared.error.Disorder.{Disorder}
use Rattle.tsb_field_streams.specs.declared.error.FilterError.{FilterError}
use Rattle.tsb_field_streams.specs.declared.error.FilterError.TheVariants.{Memory, Read, Write, TooLarge, LongLine, Malformed, TimeOrder, TooManyRows, PastEnd, LogTooLarge}
use Rattle.tsb_field_streams.specs.Clocks.{clock_text}

-- which line it is
abbrev pub line_number : ℕ → List ℕ
line_number line = codes "events line " ++ decimal line

-- the name of a column
abbrev pub column_name : Column → List ℕ
column_name Device = codes "device"
column_name Time = codes "time"
column_name Code = codes "code"
column_name Parameter = codes "parameter"

-- a byte as it can be shown: a question mark for a double quote and for all that is no printed character of ASCII
abbrev pub safe : ℕ → ℕ
safe byte = if nat_lt byte 32 || nat_lt 126 byte || byte == 34 then 63 else byte

-- what a field has, as it can be shown
abbrev pub shown_text : ShownField → List ℕ
shown_text field = map safe (take (min field.count 40) field.bytes)

-- the name of a column, and what its field has
abbrev pub field_text : Column → ShownField → List ℕ
field_text column field = column_name column ++ (codes ": \"" ++ (shown_text field ++ 34 ∷ []))

-- a time in a form
abbrev pub example : TimeForm → List ℕ
example YearFirst = codes "2026-11-22 07:00:00.1"
example MonthFirst = codes "11/22/2026 07:00:00.1"
example DayFirst = codes "22/11/2026 07:00:00.1"
example Seconds = codes "1795330800.1"
example Milliseconds = codes "1795330800100"

-- a time that is none in its form
abbrev pub no_time_text : TimeForm → ShownField → List ℕ
no_time_text form time = field_text Time time ++ (codes " is no time as " ++ example form)

-- a time that has another form
abbrev pub other_form_text : TimeForm → TimeForm → ShownField → List ℕ
other_form_text form own time =
    field_text Time time
    ++ (codes " is " ++ (time_form_word own ++ (codes ", not " ++ (time_form_word form ++ codes ": one form a file, by the first row or --time-form"))))

-- the name of a separator
abbrev pub separator_name : Separator → List ℕ
separator_name Comma = codes "commas"
separator_name Semicolon = codes "semicolons"
separator_name Tab = codes "tabs"

-- a line that has another separator than all
abbrev pub parted_text : Separator → Separator → List ℕ
parted_text all own = separator_name own ++ (codes " part its fields, and " ++ (separator_name all ++ codes " those above: one separator a file"))

-- the names of one word that a header may give a column
abbrev pub names_taken : Column → List ℕ
names_taken Device = codes "SignalID, DeviceId, LocationIdentifier or LocationId"
names_taken Time = codes "Timestamp, DateTime or Time"
names_taken Code = codes "EventCode, EventId, EventType or Code"
names_taken Parameter = codes "EventParam, Parameter, Param or EventValue"

-- a header that does not name this column, and which names it may have
abbrev pub lacks_text : Column → List ℕ
lacks_text column = codes "header: no column is the " ++ (column_name column ++ (codes ": name it " ++ names_taken column))

-- what is wrong with a line of a text
abbrev pub why_text : RowFault → List ℕ
why_text (Lacks column) = lacks_text column
why_text (Missing column) = column_name column ++ codes ": the line ends before it"
why_text (NoDay time) = field_text Time time ++ codes " has no day (was it opened in a spreadsheet?)"
why_text (NoSeconds time) = field_text Time time ++ codes " has no seconds (was it opened in a spreadsheet?)"
why_text (Ambiguous time) = field_text Time time ++ codes " can be read in two ways: give --time-form month-first or --time-form day-first"
why_text (OtherForm form own time) = other_form_text form own time
why_text (NoTime form time) = no_time_text form time
why_text (NoNumber column field) = field_text column field ++ codes " is no whole number up to 4294967295"
why_text Quote = codes "a quote is out of place"
why_text (Parted all own) = parted_text all own
why_text Utf16 = codes "UTF-16"
why_text Zip = codes "packed"
why_text Xml = codes "XML"
why_text Binary = codes "binary"

-- why this line is no row; what is no text of lines at all is told without a line
abbrev pub row_fault_text : ℕ → RowFault → List ℕ
row_fault_text line Utf16 = codes "events: UTF-16: convert by iconv -f utf-16 -t utf-8"
row_fault_text line Zip = codes "events: packed: unpack by unzip or gunzip"
row_fault_text line Xml = codes "events: XML: export as CSV"
row_fault_text line Binary = codes "events: binary: convert by the controller's own program"
row_fault_text line why = line_number line ++ (codes ": " ++ why_text why)

-- a time of a later day is told as such
abbrev pub day_between : Disorder → List ℕ
day_between d = if nat_lt (d.moment / 86400000000000) (d.last / 86400000000000) then codes " of a later day" else []

-- how late a row may be where rows are sorted, and what to do
abbrev pub late_text : ℕ → List ℕ
late_text seconds = codes ": over " ++ (decimal seconds ++ codes " s late: give a larger --sort-within, or sort by column ")

-- what is said of a row that is out of order, where rows have to be in order or are sorted
abbrev pub sort_text : Option ℕ → List ℕ
sort_text None = codes ": sort by column "
sort_text (Some seconds) = late_text seconds

-- what to do, with the column to sort by
abbrev pub cure_text : Disorder → List ℕ
cure_text d = sort_text d.within ++ decimal (d.column + 1)

-- a row that is earlier than one before it: both times, and what to do
abbrev pub disorder_text : Disorder → List ℕ
disorder_text d =
    line_number d.line ++ (codes ": time order: " ++ (clock_text d.moment ++ (codes " after " ++ (clock_text d.last ++ (day_between d ++ cure_text d)))))

-- what ended a filter is told as
abbrev pub filter_fault : FilterError → List ℕ
filter_fault Memory = codes "memory"
filter_fault Read = codes "read fault"
filter_fault Write = codes "write fault"
filter_fault TooLarge = codes "events: too large"
filter_fault (LongLine line) = line_number line ++ codes ": over 1000 bytes (is it a text with lines?)"
filter_fault (Malformed line why) = row_fault_text line why
filter_fault (TimeOrder disorder) = disorder_text disorder
filter_fault (TooManyRows line) = line_number line ++ codes ": over 1000000 rows to sort: give a smaller --sort-within, or a --device"
filter_fault PastEnd = codes "events: past tick 6000000"
filter_fault LogTooLarge = codes "log: too large"
