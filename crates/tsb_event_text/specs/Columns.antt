-- Which field of a line is what. Exports name the columns in a header, in one of several ways.
use Rattle.std.specs.Prelude.{ℕ, ◌+◌, ◌==◌, ◌&&◌, ◌||◌, nat_le, Bool, true, false, List, [], ◌∷◌, if◌then◌else◌, Option, Some, None, codes}
use Rattle.tsb_event_text.specs.declared.columns.Column.{Column}
use Rattle.tsb_event_text.specs.declared.columns.Column.TheVariants.{Device, Time, Code, Parameter}
use Rattle.tsb_event_text.specs.declared.columns.Columns.{Columns}
use Rattle.tsb_event_text.specs.declared.columns.Separator.{Separator}
use Rattle.tsb_event_text.specs.declared.columns.Separator.TheVariants.{Comma, Semicolon, Tab}
use Rattle.tsb_event_text.specs.Fields.{fields_of, has_third}

-- the byte that parts fields
abbrev pub mark_of : Separator → ℕ
mark_of Comma = 44
mark_of Semicolon = 59
mark_of Tab = 9

-- what does not count in a name: a space, an underline or a hyphen
abbrev pub is_filler : ℕ → Bool
is_filler b = b == 32 || (b == 95 || b == 45)

-- a letter in its small form
abbrev pub small : ℕ → ℕ
small b = if nat_le 65 b && nat_le b 90 then b + 32 else b

-- the field is this name in small letters, whatever its case, and with any fillers
abbrev pub is_called : List ℕ → List ℕ → Bool
is_called [] [] = true
is_called [] (n ∷ name) = false
is_called (b ∷ field) [] = if is_filler b then is_called field [] else false
is_called (b ∷ field) (n ∷ name) =
    if is_filler b then is_called field (n ∷ name) else if small b == n then is_called field name else false

-- the field names this column
abbrev pub names_column : Column → List ℕ → Bool
names_column Device field =
    is_called field (codes "signalid") || is_called field (codes "deviceid") || is_called field (codes "locationidentifier")
    || is_called field (codes "locationid") || is_called field (codes "intersectionid") || is_called field (codes "controllerid")
names_column Time field =
    is_called field (codes "timestamp") || is_called field (codes "datetime") || is_called field (codes "eventtime") || is_called field (codes "time")
names_column Code field =
    is_called field (codes "eventcode") || is_called field (codes "eventid") || is_called field (codes "eventtype")
    || is_called field (codes "eventtypeid") || is_called field (codes "code")
names_column Parameter field =
    is_called field (codes "eventparam") || is_called field (codes "parameter") || is_called field (codes "eventparameter")
    || is_called field (codes "param") || is_called field (codes "eventvalue")

-- the place of the first of these fields that names the column, where the first of them has this place
abbrev pub place_from : ℕ → Column → List (List ℕ) → Option ℕ
place_from place column [] = None
place_from place column (field ∷ fields) = if names_column column field then Some place else place_from (place + 1) column fields

-- the columns, where all but the device have a place
abbrev pub columns_at : Separator → Option ℕ → Option ℕ → Option ℕ → Option ℕ → Option Columns
columns_at separator device (Some time) (Some code) (Some parameter) =
    Some (record { device = device; time = time; code = code; parameter = parameter; separator = separator })
columns_at separator device time code parameter = None

-- the columns that these fields name
abbrev pub columns_in : Separator → Option (List (List ℕ)) → Option Columns
columns_in separator None = None
columns_in separator (Some fields) =
    columns_at separator (place_from 0 Device fields) (place_from 0 Time fields) (place_from 0 Code fields)
    (place_from 0 Parameter fields)

-- the columns that a line names whose fields this separator parts: a time, a code and a parameter among them
unfoldable pub header_by : Separator → List ℕ → Option Columns
header_by separator line = columns_in separator (fields_of (mark_of separator) line)

-- the first of two that is there
abbrev pub or_else : Option Columns → Option Columns → Option Columns
or_else None other = other
or_else (Some columns) other = Some columns

-- the columns that a line names, where it is a header: by commas, or else by semicolons, or else by tabs
unfoldable pub header_of : List ℕ → Option Columns
header_of line = or_else (header_by Comma line) (or_else (header_by Semicolon line) (header_by Tab line))

-- the separator of a first row: commas, where they part three fields, or else semicolons, or else tabs
unfoldable pub separator_of : List ℕ → Separator
separator_of line =
    if has_third 44 line then Comma
    else if has_third 59 line then Semicolon
    else if has_third 9 line then Tab
    else Comma

-- the columns of a text without a header, whose fields this separator parts
abbrev pub usual_by : Separator → Columns
usual_by separator = record { device = Some 0; time = 1; code = 2; parameter = 3; separator = separator }

-- those of commas
abbrev pub usual_columns : Columns
usual_columns = usual_by Comma

-- the columns of a text without a header, of which this is the first row
abbrev pub usual_of : List ℕ → Columns
usual_of line = usual_by (separator_of line)
