-- What is wrong with words of `tsb_field`, where one word of them says it, and the line that says so.
use Rattle.std.specs.Prelude.{ℕ, ◌==◌, ◌&&◌, ◌||◌, Bool, true, false, if◌then◌else◌, List, [], ◌∷◌, ◌++◌, not, Option, Some, None, is_some, codes, decimal, bytes_eq}
use Rattle.clap.specs.Walk.{Text}
use Rattle.tsb_event_text.specs.Events.{can_be_written}
use Rattle.tsb_event_text.specs.Times.{moment_of}
use Rattle.tsb_event_text.specs.TimeForms.{time_form_named, time_form_word, zone_named}
use Rattle.tsb_event_text.specs.declared.events.TheConstants.{LONGEST_DEVICE}
use Rattle.tsb_event_text.specs.declared.time_forms.TimeForm.{TimeForm}
use Rattle.tsb_field_log.specs.Inputs.{most_inputs}
use Rattle.tsb_field_log.specs.declared.inputs.InputKind.{InputKind}
use Rattle.tsb_field_log.specs.declared.inputs.InputKind.TheVariants.{Vehicle, Pedestrian, Preempt}
use Rattle.tsb_words.specs.FieldWords.{midnight, seconds_of, window_of}
use Rattle.tsb_command_text.specs.clock.ClockText.{clock_of}
use Rattle.tsb_words.specs.Near.{first_word, front_of, is_empty, is_slip, words_of}
use Rattle.tsb_words.specs.Shown.{shown}
use Rattle.tsb_words.specs.Wires.{parts_of, wire_of}
use Rattle.tsb_words.specs.declared.field_files.options.TheConstants.{MOST_SECONDS, MOST_WINDOW}
use Rattle.tsb_words.specs.declared.wrong.OptionValue.{OptionValue}
use Rattle.tsb_words.specs.declared.wrong.OptionValue.TheVariants as takes
use Rattle.tsb_words.specs.declared.wrong.TheConstants.{FORMS}
use Rattle.tsb_words.specs.declared.wrong.WrongWord.{WrongWord}
use Rattle.tsb_words.specs.declared.wrong.WrongWord.TheVariants as wrongs

-- what is wrong with words, by the text of each
pub data Wrong : Type 0 where
  -- there is no command of this name
  no_command : Text → Wrong
  -- the command has no option of this name
  unknown : Text → Wrong
  -- the option of this name, which takes this, has no value
  bare : Text → OptionValue → Wrong
  -- the option of this name, which takes this, has this value
  bad_value : Text → OptionValue → Text → Wrong
  -- the option of this name has this value, and that right one is near
  slip : Text → Text → Text → Wrong
  -- the option of this name comes twice
  twice : Text → Wrong
  -- the option of this name, which takes this, has to be given and is not
  missing : Text → OptionValue → Wrong
  -- the files are not those that the command of this name names
  other_files : Text → Wrong

-- what was answered, by the text of each word
abbrev pub seen_wrong : WrongWord → Wrong
seen_wrong (wrongs.Command name) = no_command name.now
seen_wrong (wrongs.Unknown name) = unknown name.now
seen_wrong (wrongs.Bare name value) = bare name.now value
seen_wrong (wrongs.Value name value text) = bad_value name.now value text.now
seen_wrong (wrongs.Slip name text right) = slip name.now text.now right.now
seen_wrong (wrongs.Twice name) = twice name.now
seen_wrong (wrongs.Missing name value) = missing name.now value
seen_wrong (wrongs.Files command) = other_files command.now

-- ## Options

-- there is a text
abbrev pub has_text : List Text → Bool
has_text [] = false
has_text (right ∷ rights) = true

-- there is a command of this name
abbrev pub is_command : Text → Bool
is_command command = has_text (words_of command)

-- a word is an option: it has a byte after a first hyphen
abbrev pub is_option : Text → Bool
is_option [] = false
is_option (x ∷ rest) = x == 45 && not (is_empty rest)

-- one of these texts is this name
abbrev pub has_name : List Text → Text → Bool
has_name [] name = false
has_name (right ∷ rights) name = bytes_eq right name || has_name rights name

-- an option of this name is among these words, before `--`
abbrev pub has_option : Text → List Text → Bool
has_option name [] = false
has_option name (word ∷ words) =
    if bytes_eq word (codes "--") then false else bytes_eq (front_of word) name || has_option name words

-- the command of this name writes events of a device
abbrev pub writes_device : Text → Bool
writes_device command = bytes_eq command (codes "record") || bytes_eq command (codes "events")

-- what `--device` takes: where events are written, one that a line of them can name
abbrev pub device_of : Text → OptionValue
device_of command = if writes_device command then takes.Device else takes.Text

-- an option of this name takes any text
abbrev pub is_text : Text → Bool
is_text name =
    bytes_eq name (codes "--as-outputs") || (bytes_eq name (codes "--log") || (bytes_eq name (codes "--title")
    || (bytes_eq name (codes "--events") || bytes_eq name (codes "--against"))))

-- what an option takes that is none of times, seconds or devices
abbrev pub other_value_of : Text → OptionValue
other_value_of name =
    if bytes_eq name (codes "--vehicle") then takes.Wire Vehicle
    else (if bytes_eq name (codes "--pedestrian") then takes.Wire Pedestrian
    else (if bytes_eq name (codes "--preempt") then takes.Wire Preempt
    else (if is_text name then takes.Text else takes.Nothing)))

-- what an option of this name takes, where the command of that name has it
abbrev pub value_of : Text → Text → OptionValue
value_of command name =
    if bytes_eq name (codes "--from") then takes.Time
    else (if bytes_eq name (codes "--week") then takes.Date
    else (if bytes_eq name (codes "--time-form") then takes.Form
    else (if bytes_eq name (codes "--zone") then takes.Zone
    else (if bytes_eq name (codes "--sort-within") then takes.Window
    else (if bytes_eq name (codes "--seconds-per-line") then takes.Seconds
    else (if bytes_eq name (codes "--device") then device_of command else other_value_of name))))))

-- an option that takes this may come once alone
abbrev pub is_once : OptionValue → Bool
is_once (takes.Wire kind) = false
is_once value = true

-- an option that takes this is a flag
abbrev pub is_flag : OptionValue → Bool
is_flag takes.Nothing = true
is_flag value = false

-- ## Values

-- an option that takes this can have that value
abbrev pub is_taken : OptionValue → Text → Bool
is_taken takes.Time text = is_some (moment_of text)
is_taken takes.Date text = is_some (clock_of text midnight)
is_taken takes.Form text = is_some (time_form_named text)
is_taken takes.Zone text = is_some (zone_named text)
is_taken takes.Window text = is_some (window_of text)
is_taken takes.Seconds text = is_some (seconds_of text)
is_taken (takes.Wire kind) text = is_some (wire_of kind text)
is_taken takes.Device text = can_be_written text
is_taken takes.Text text = true
is_taken takes.Nothing text = false

-- what comes after the first `=`
abbrev pub value_in : Option (Text × Text) → Option Text
value_in None = None
value_in (Some parts) = Some parts.1

-- what comes after the first `=` of a word
abbrev pub joined_value : Text → Option Text
joined_value word = value_in (parts_of word)

-- a word that is no option
abbrev pub unless_option : Option Text → Option Text
unless_option None = None
unless_option (Some word) = if is_option word then None else Some word

-- the first of these words, where it is no option
abbrev pub next_value : List Text → Option Text
next_value words = unless_option (first_word words)

-- the value of an option that takes this: what comes after its `=`, or else the next word, which a flag passes over
abbrev pub value_given : OptionValue → Option Text → Option Text → Option Text
value_given value (Some text) next = Some text
value_given value None next = if is_flag value then None else next

-- of these forms, the word of the first from which a word differs by a slip
abbrev pub near_form : List TimeForm → Text → Option Text
near_form [] word = None
near_form (form ∷ forms) word = if is_slip (time_form_word form) word then Some (time_form_word form) else near_form forms word

-- the right value that was perhaps meant by a wrong one
abbrev pub right_near : OptionValue → Text → Option Text
right_near takes.Form text = near_form FORMS text
right_near value text = None

-- that an option has this value, for which that right one was perhaps meant
abbrev pub meant : Text → OptionValue → Text → Option Text → Wrong
meant name value text (Some right) = slip name text right
meant name value text None = bad_value name value text

-- what is wrong with an option that has this value, if something is
abbrev pub given : Text → OptionValue → Text → Option Wrong
given name value text = if is_taken value text then None else Some (meant name value text (right_near value text))

-- that an option has no value, where it is no flag
abbrev pub bare_or_none : Text → OptionValue → Option Wrong
bare_or_none name value = if is_flag value then None else Some (bare name value)

-- what is wrong with the value of an option, if something is
abbrev pub value_wrong : Text → OptionValue → Option Text → Option Wrong
value_wrong name value (Some text) = given name value text
value_wrong name value None = bare_or_none name value

-- ## Words

-- what is wrong with an option of this name, which takes this, with these texts after its `=` and behind it
abbrev pub option_wrong : Text → OptionValue → Text → List Text → Option Wrong
option_wrong name value word behind =
    if is_once value && has_option name behind then Some (twice name)
    else value_wrong name value (value_given value (joined_value word) (next_value behind))

-- what is wrong with a word, before these
abbrev pub wrong_at : Text → Text → List Text → Option Wrong
wrong_at command word behind =
    if is_option (front_of word)
    then (if has_name (words_of command) (front_of word) then option_wrong (front_of word) (value_of command (front_of word)) word behind
    else Some (unknown (front_of word)))
    else None

-- the one, or else the other
abbrev pub wrong_or : Option Wrong → Option Wrong → Option Wrong
wrong_or (Some wrong) other = Some wrong
wrong_or None other = other

-- what is wrong with the first of these words, before `--`, with which something is
abbrev pub wrong_in : Text → List Text → Option Wrong
wrong_in command [] = None
wrong_in command (word ∷ behind) =
    if bytes_eq word (codes "--") then None else wrong_or (wrong_at command word behind) (wrong_in command behind)

-- `--from` has to be given: in each command but `review`, `schedule`, `worksheet` and `card`, and in `diagram` where there
-- is `--events`
abbrev pub needs_from : Text → List Text → Bool
needs_from command words =
    if bytes_eq command (codes "diagram") then has_option (codes "--events") words
    else not (bytes_eq command (codes "review")) && (not (bytes_eq command (codes "schedule"))
    && (not (bytes_eq command (codes "worksheet")) && not (bytes_eq command (codes "card"))))

-- what these words lack: an option that has to be given, or else the files of the command
abbrev pub lacking : Text → List Text → Wrong
lacking command words =
    if needs_from command words && not (has_option (codes "--from") words) then missing (codes "--from") takes.Time
    else (if writes_device command && not (has_option (codes "--device") words) then missing (codes "--device") takes.Device
    else (if bytes_eq command (codes "schedule") && not (has_option (codes "--week") words) then missing (codes "--week") takes.Date
    else other_files command))

-- a first wrong word, or else what is lacking
abbrev pub wrong_or_lacking : Option Wrong → Wrong → Wrong
wrong_or_lacking (Some wrong) other = wrong
wrong_or_lacking None other = other

-- what is wrong with words of a command
abbrev pub command_wrong : Text → List Text → Option Wrong
command_wrong command words =
    if has_option (codes "--help") words then None else Some (wrong_or_lacking (wrong_in command words) (lacking command words))

-- what is wrong with the words after the program's name
abbrev pub wrong_after : List Text → Option Wrong
wrong_after [] = None
wrong_after (command ∷ words) = if is_command command then command_wrong command words else Some (no_command command)

-- what is wrong with words; the first is the program's name
abbrev pub field_wrong : List Text → Option Wrong
field_wrong [] = None
field_wrong (name ∷ rest) = wrong_after rest

-- ## The line

-- a number of seconds from 1 to this one
abbrev pub seconds_text : ℕ → List ℕ
seconds_text most = codes "a number of seconds is 1 to " ++ decimal most

-- what an input of this kind is called
abbrev pub input_name : InputKind → List ℕ
input_name Vehicle = codes "CHANNEL=DETECTOR, with a detector"
input_name Pedestrian = codes "CHANNEL=DETECTOR, with a detector"
input_name Preempt = codes "CHANNEL=INPUT, with an input"

-- what a wire to an input of this kind is
abbrev pub wire_text : InputKind → List ℕ
wire_text kind = input_name kind ++ (codes " from 1 to " ++ decimal (most_inputs kind))

-- what a device is that a line of events can name
abbrev pub device_text : List ℕ
device_text = codes "a device has no double quote, no end of a line and at most " ++ (decimal LONGEST_DEVICE ++ codes " bytes")

-- what an option takes
abbrev pub taken_text : OptionValue → List ℕ
taken_text takes.Time = codes "a time is YYYY-MM-DD HH:MM:SS, such as \"2026-11-22 07:00:00\""
taken_text takes.Date = codes "a date is YYYY-MM-DD, such as 2026-11-22, of the years 2000 to 2099"
taken_text takes.Form = codes "a form is year-first, month-first, day-first, seconds or milliseconds"
taken_text takes.Zone = codes "a zone is an offset such as -07:00, or Z"
taken_text takes.Window = seconds_text MOST_WINDOW
taken_text takes.Seconds = seconds_text MOST_SECONDS
taken_text (takes.Wire kind) = wire_text kind
taken_text takes.Device = device_text
taken_text takes.Text = codes "a name or a text has to follow"
taken_text takes.Nothing = codes "it takes no value"

-- which files the command of this name names
abbrev pub files_text : Text → List ℕ
files_text command =
    if bytes_eq command (codes "log") then codes "log names no file: it reads an event log from standard input"
    else (if bytes_eq command (codes "record") then codes "record names two files, PLAN and LOG"
    else (if bytes_eq command (codes "review") then codes "review names one file, PLAN"
    else (if bytes_eq command (codes "schedule") then codes "schedule names one file, PLAN"
    else (if bytes_eq command (codes "worksheet") then codes "worksheet names one file, PLAN"
    else (if bytes_eq command (codes "card") then codes "card names one file, PLAN"
    else codes "this command names files by options alone: it reads what `tsb run` answers from standard input")))))

-- a value in double quotes
abbrev pub quoted : Text → List ℕ
quoted text = codes " \"" ++ (shown text ++ codes "\": ")

-- what is said of words with which this is wrong, without the end of the line
abbrev pub wrong_text : Wrong → List ℕ
wrong_text (no_command name) = codes "there is no command \"" ++ (shown name ++ codes "\": log, record, events, diagram, review, schedule, worksheet or card")
wrong_text (unknown name) = shown name ++ codes ": the command has no such option; --help after it lists all"
wrong_text (bare name value) = shown name ++ (codes " has no value (one that begins with a hyphen comes after =): " ++ taken_text value)
wrong_text (bad_value name value text) = shown name ++ (quoted text ++ taken_text value)
wrong_text (slip name text right) = shown name ++ (quoted text ++ (codes "did you mean " ++ (shown right ++ codes "?")))
wrong_text (twice name) = shown name ++ codes " comes twice"
wrong_text (missing name value) = shown name ++ (codes " has to be given: " ++ taken_text value)
wrong_text (other_files command) = files_text command

-- the same with the end of the line
abbrev pub wrong_line : Wrong → List ℕ
wrong_line wrong = wrong_text wrong ++ 10 ∷ []
