-- Why a line is no row of events.
use Rattle.std.specs.Prelude.{ℕ, ◌==◌, ◌&&◌, ◌||◌, not, Bool, true, false, List, [], ◌∷◌, ◌++◌, length, min, take, drop, if◌then◌else◌, Option, Some, None, codes}
use Rattle.tsb_event_text.specs.declared.columns.Column.{Column}
use Rattle.tsb_event_text.specs.declared.columns.Column.TheVariants.{Device, Time, Code, Parameter}
use Rattle.tsb_event_text.specs.declared.columns.Columns.{Columns}
use Rattle.tsb_event_text.specs.declared.columns.Separator.TheVariants.{Comma, Semicolon, Tab}
use Rattle.tsb_event_text.specs.declared.faults.ShownField.{ShownField}
use Rattle.tsb_event_text.specs.declared.faults.RowFault.{RowFault}
use Rattle.tsb_event_text.specs.declared.faults.RowFault.TheVariants.{Utf16, Zip, Xml, Binary, Lacks, Quote, Parted, Missing, Ambiguous, NoDay, NoSeconds, OtherForm, NoTime, NoNumber}
use Rattle.tsb_event_text.specs.declared.times.Moment.{Moment}
use Rattle.tsb_event_text.specs.Columns.{mark_of, place_from}
use Rattle.tsb_event_text.specs.Events.{has_byte}
use Rattle.tsb_event_text.specs.Fields.{are_there, device_in, field_in, fields_of, has_third, is_field}
use Rattle.tsb_event_text.specs.TimeForms.{before, behind, form_of, is_ambiguous, is_empty, moment_in}
use Rattle.tsb_event_text.specs.Wide.{form_by, trimmed, whole_of}
use Rattle.tsb_event_text.specs.declared.time_forms.TimeForm.{TimeForm}
use Rattle.tsb_event_text.specs.declared.time_forms.TimeForm.TheVariants.{YearFirst}

-- ## What a text is that has no such lines

-- a line begins with this byte, and then with this one
abbrev pub begins : ℕ → ℕ → List ℕ → Bool
begins a b [] = false
begins a b (x ∷ []) = false
begins a b (x ∷ y ∷ line) = x == a && y == b

-- by its mark a text is UTF-16
abbrev pub is_utf16 : List ℕ → Bool
is_utf16 line = begins 255 254 line || begins 254 255 line

-- it is packed, by zip (`PK`, 3) or by gzip
abbrev pub is_packed : List ℕ → Bool
is_packed line = (begins 80 75 line && has_byte 3 line) || begins 31 139 line

-- it begins with `<`, as XML
abbrev pub is_xml : List ℕ → Bool
is_xml [] = false
is_xml (b ∷ line) = b == 60

-- ## Lines that name columns

-- a field names the column
abbrev pub is_place : Option ℕ → Bool
is_place None = false
is_place (Some place) = true

-- one of these fields names it
abbrev pub is_named_in : Column → Option (List (List ℕ)) → Bool
is_named_in column None = false
is_named_in column (Some fields) = is_place (place_from 0 column fields)

-- a field of the line names it, where commas part its fields, or where semicolons or tabs do
abbrev pub is_named : Column → List ℕ → Bool
is_named column line =
    is_named_in column (fields_of 44 line) || (is_named_in column (fields_of 59 line) || is_named_in column (fields_of 9 line))

-- what is wrong with a line that names a time or a code, and is no header: the first column that it lacks
abbrev pub header_fault : List ℕ → RowFault
header_fault line = if is_named Time line then (if is_named Code line then Lacks Parameter else Lacks Code) else Lacks Time

-- ## Fields of a row

-- the first bytes of a field, 40 at most
abbrev pub front_of : List ℕ → List ℕ
front_of field = take (min (length field) 40) field

-- a field as it is shown: its first bytes, and spaces behind them
abbrev pub shown_of : List ℕ → ShownField
shown_of field = record {
  bytes = front_of field ++ drop (length (front_of field)) (codes "                                        ");
  count = length (front_of field);
}

-- the device of a row as it is shown: nothing, where there is none
abbrev pub device_shown : Option (List ℕ) → ShownField
device_shown None = shown_of []
device_shown (Some device) = shown_of (trimmed device)

-- the device of a line, with its columns in these places
abbrev pub device_of : Columns → List ℕ → ShownField
device_of columns line = device_shown (device_in (fields_of (mark_of columns.separator) line) columns.device)

-- a text has a mark of a day: a hyphen, a slash, or a point before its clock
abbrev pub is_dated : List ℕ → Bool
is_dated time = has_byte 45 time || (has_byte 47 time || has_byte 46 (before 58 time))

-- it has one colon at most: a clock without seconds
abbrev pub has_no_second : List ℕ → Bool
has_no_second time = is_empty (behind 58 (behind 58 time))

-- no form is known
abbrev pub is_open : Option TimeForm → Bool
is_open None = true
is_open (Some form) = false

-- the form that a time should have
abbrev pub form_or : Option TimeForm → TimeForm
form_or None = YearFirst
form_or (Some form) = form

-- a time of this form is none, and of another form, or of none
abbrev pub form_fault : TimeForm → Option TimeForm → List ℕ → RowFault
form_fault form None time = NoTime form (shown_of time)
form_fault form (Some own) time = OtherForm form own (shown_of time)

-- what is wrong with a time of this form, or where none is known yet
abbrev pub time_fault : Option TimeForm → List ℕ → RowFault
time_fault times time =
    if is_open times && is_ambiguous time then Ambiguous (shown_of time)
    else if has_byte 58 time && not (is_dated time) then NoDay (shown_of time)
    else if has_byte 58 time && has_no_second time then NoSeconds (shown_of time)
    else form_fault (form_or times) (form_of time) time

-- the moment of a time whose form is known
abbrev pub moment_by : Option TimeForm → List ℕ → Option Moment
moment_by None time = None
moment_by (Some form) time = moment_in form None time

-- the moment of a time
abbrev pub time_at : Option TimeForm → List ℕ → Option Moment
time_at times time = moment_by (form_by times time) time

-- what is wrong with these fields, of which the first two say this: with the time, the code, or else the parameter
abbrev pub said_fault : Option TimeForm → Option Moment → Option ℕ → List ℕ → List ℕ → List ℕ → RowFault
said_fault times None said time code parameter = time_fault times time
said_fault times (Some moment) None time code parameter = NoNumber Code (shown_of code)
said_fault times (Some moment) (Some said) time code parameter = NoNumber Parameter (shown_of parameter)

-- what is wrong with three fields without spaces around them
abbrev pub three_fault : Option TimeForm → List ℕ → List ℕ → List ℕ → RowFault
three_fault times time code parameter = said_fault times (time_at times time) (whole_of code) time code parameter

-- what is wrong with a row, where these are its fields: the first that is missing, or what one says
abbrev pub fields_fault : Option TimeForm → Option (List ℕ) → Option (List ℕ) → Option (List ℕ) → Option (List ℕ) → RowFault
fields_fault times None time code parameter = Missing Device
fields_fault times (Some device) None code parameter = Missing Time
fields_fault times (Some device) (Some time) None parameter = Missing Code
fields_fault times (Some device) (Some time) (Some code) None = Missing Parameter
fields_fault times (Some device) (Some time) (Some code) (Some parameter) = three_fault times (trimmed time) (trimmed code) (trimmed parameter)

-- these fields have a device, a time, a code and a parameter in these places
abbrev pub are_columns : Columns → Option (List (List ℕ)) → Bool
are_columns columns fields =
    is_field (device_in fields columns.device)
    && (is_field (field_in fields columns.time) && (is_field (field_in fields columns.code) && is_field (field_in fields columns.parameter)))

-- what is wrong with the fields of a line, as the separator of these columns parts them
abbrev pub parts_fault : Columns → Option TimeForm → Option (List (List ℕ)) → RowFault
parts_fault columns times fields =
    if are_there fields
    then fields_fault times (device_in fields columns.device) (field_in fields columns.time) (field_in fields columns.code)
    (field_in fields columns.parameter)
    else Quote

-- what is wrong with a row, with its columns in these places: where its fields are not there, another separator may part them
abbrev pub row_fault_of : Columns → Option TimeForm → List ℕ → RowFault
row_fault_of columns times line =
    if are_columns columns (fields_of (mark_of columns.separator) line) then parts_fault columns times (fields_of (mark_of columns.separator) line)
    else if are_columns columns (fields_of 44 line) then Parted columns.separator Comma
    else if are_columns columns (fields_of 59 line) then Parted columns.separator Semicolon
    else if are_columns columns (fields_of 9 line) then Parted columns.separator Tab
    else parts_fault columns times (fields_of (mark_of columns.separator) line)

-- what is wrong with a line of a text of lines, with its columns in these places
abbrev pub line_fault : Columns → Option TimeForm → List ℕ → RowFault
line_fault columns times line =
    if is_named Time line || is_named Code line then header_fault line else row_fault_of columns times line

-- why a line is no row, with its columns in these places and times in this form, or in that of the row's own time
unfoldable pub fault_of : Columns → Option TimeForm → List ℕ → RowFault
fault_of columns times line =
    if is_utf16 line then Utf16
    else if is_packed line then Zip
    else if is_xml line then Xml
    else if has_byte 0 line then Binary
    else line_fault columns times line

-- ## Lines before the header

-- a line of another kind of file
abbrev pub is_other : List ℕ → Bool
is_other line = is_utf16 line || (is_packed line || (is_xml line || has_byte 0 line))

-- by one of the separators a line has fields, in which no quote is out of place
abbrev pub has_some_fields : List ℕ → Bool
has_some_fields line = are_there (fields_of 44 line) || (are_there (fields_of 59 line) || are_there (fields_of 9 line))

-- this mark stands in a line, and parts it into more than two fields, or leaves a quote out of place
abbrev pub has_more : ℕ → List ℕ → Bool
has_more mark line = has_byte mark line && (not (are_there (fields_of mark line)) || has_third mark line)

-- one of them does so
abbrev pub has_some_more : List ℕ → Bool
has_some_more line = has_more 44 line || (has_more 59 line || has_more 9 line)

-- a line that a maker writes before the header: it names no time and no code, and each separator in it leaves one or two
-- fields
unfoldable pub is_preface : List ℕ → Bool
is_preface line =
    not (is_other line) && (not (is_named Time line || is_named Code line) && (has_some_fields line && not (has_some_more line)))
