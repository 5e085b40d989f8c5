-- The command of `tsb_field` as `clap` reads it, and what is made of what `clap` answers.
use Rattle.std.specs.Prelude.{◌≡◌, IsSome, Bool, false, true, if◌then◌else◌, Option, Some, None, option_and_then, option_map, unwrap_or, List, [], ◌∷◌, ◌++◌, ℕ, codes, bytes_eq, Result}
use Rattle.clap.specs.Simple.{App, Shape, new_shape}
use Rattle.clap.specs.Walk.{Row, Rule, Text, all_of, first_of}
use Rattle.tsb_event_text.specs.Events.{can_be_written}
use Rattle.tsb_event_text.specs.Times.{moment_of}
use Rattle.tsb_event_text.specs.TimeForms.{time_form_named, zone_named}
use Rattle.tsb_event_text.specs.declared.time_forms.TimeForm.{TimeForm}
use Rattle.tsb_event_text.specs.declared.times.Moment.{Moment}
use Rattle.tsb_event_text.specs.declared.zones.Zone.{Zone}
use Rattle.tsb_field_log.specs.declared.inputs.InputKind.TheVariants.{Vehicle, Pedestrian, Preempt}
use Rattle.tsb_field_log.specs.declared.inputs.Wire.{Wire}
use Rattle.tsb_words.specs.declared.field_files.options.TheConstants.{USUAL_WINDOW}
use Rattle.tsb_words.specs.declared.field_files.Asked.{Asked}
use Rattle.tsb_words.specs.declared.field_files.Manner.{Manner}
use Rattle.tsb_words.specs.declared.field_files.RecordManner.{RecordManner}
use Rattle.tsb_words.specs.declared.error.WordsError.{WordsError}
use Rattle.tsb_words.specs.Commands.{file_rule, flag_rule, option_rule, repeated_rule, required_rule}
use Rattle.tsb_words.specs.FieldWords.{Wish, card, diagram, events, log, midnight, recording, reviewing, seconds_of, seen, weekly, window_of, worksheet}
use Rattle.tsb_command_text.specs.clock.ClockText.{clock_of}
use Rattle.tsb_words.specs.Words.{SpelledBy, met_by}
use Rattle.tsb_words.specs.Wires.{joined, wires_of}

-- a subcommand with these arguments
abbrev pub shape_with : Text → List Rule → Shape
shape_with name rules = record (new_shape name) { rules = rules }

-- the options of wires
abbrev pub wire_rules : List Rule
wire_rules = repeated_rule (codes "vehicle") ∷ repeated_rule (codes "pedestrian") ∷ repeated_rule (codes "preempt") ∷ []

-- the options of how events are read, and of what is told of them
abbrev pub manner_rules : List Rule
manner_rules =
    option_rule (codes "time-form") ∷ option_rule (codes "zone") ∷ flag_rule (codes "count") ∷ flag_rule (codes "allow-empty") ∷ []

-- the options by which rows are sorted
abbrev pub sort_rules : List Rule
sort_rules = flag_rule (codes "sort") ∷ option_rule (codes "sort-within") ∷ []

-- the words of `log`
abbrev pub log_shape : Shape
log_shape = shape_with (codes "log")
    (required_rule (codes "from") ∷ option_rule (codes "device") ∷ option_rule (codes "as-outputs") ∷ (manner_rules ++ (sort_rules ++ wire_rules)))

-- the options of events that are written
abbrev pub source_rules : List Rule
source_rules = required_rule (codes "from") ∷ required_rule (codes "device") ∷ []

-- those of `record`
abbrev pub record_shape : Shape
record_shape = shape_with (codes "record")
    (file_rule (codes "PLAN") ∷ file_rule (codes "LOG") ∷ flag_rule (codes "go-on") ∷ flag_rule (codes "recalls")
    ∷ flag_rule (codes "outputs") ∷ flag_rule (codes "no-clock") ∷ source_rules)

-- those of `events`
abbrev pub events_shape : Shape
events_shape = shape_with (codes "events")
    (option_rule (codes "log") ∷ flag_rule (codes "wide") ∷ source_rules)

-- those of `diagram`
abbrev pub diagram_shape : Shape
diagram_shape = shape_with (codes "diagram")
    (option_rule (codes "log") ∷ flag_rule (codes "wide") ∷ option_rule (codes "title") ∷ option_rule (codes "seconds-per-line") ∷ option_rule (codes "from")
    ∷ option_rule (codes "events") ∷ [])

-- those of `review`
abbrev pub review_shape : Shape
review_shape = shape_with (codes "review") (file_rule (codes "PLAN") ∷ [])

-- those of `schedule`
abbrev pub schedule_shape : Shape
schedule_shape = shape_with (codes "schedule") (file_rule (codes "PLAN") ∷ required_rule (codes "week") ∷ flag_rule (codes "svg") ∷ [])

-- those of `worksheet`
abbrev pub worksheet_shape : Shape
worksheet_shape = shape_with (codes "worksheet") (file_rule (codes "PLAN") ∷ [])

-- those of `card`
abbrev pub card_shape : Shape
card_shape = shape_with (codes "card") (file_rule (codes "PLAN") ∷ option_rule (codes "against") ∷ [])

-- the program with its subcommands
abbrev pub program : App
program = record {
  top = record (new_shape (codes "tsb_field")) { is_leaf = false };
  subs = log_shape ∷ record_shape ∷ events_shape ∷ diagram_shape ∷ review_shape ∷ schedule_shape ∷ worksheet_shape
      ∷ card_shape ∷ [];
}

-- the values of an option that may come several times
abbrev pub texts_in : Text → List Row → List Text
texts_in id rows = unwrap_or (all_of id rows) []

-- what `--from` says
abbrev pub moment_in : List Row → Option Moment
moment_in rows = option_and_then moment_of (first_of (codes "from") rows)

-- the same, where it may be left out
abbrev pub from_said : Option Text → Option (Option Moment)
from_said None = Some None
from_said (Some text) = option_map (λ (from : Moment). Some from) (moment_of text)

-- the seconds of an option that may be left out
abbrev pub seconds_said : Option Text → Option (Option ℕ)
seconds_said None = Some None
seconds_said (Some digits) = option_map (λ (n : ℕ). Some n) (seconds_of digits)

-- what `--seconds-per-line` says
abbrev pub seconds_in : List Row → Option (Option ℕ)
seconds_in rows = seconds_said (first_of (codes "seconds-per-line") rows)

-- the wires of all options: of vehicle detectors, of pedestrian detectors, of preempts
abbrev pub wires_in : List Row → Option (List Wire)
wires_in rows = joined (joined (wires_of Vehicle (texts_in (codes "vehicle") rows)) (wires_of Pedestrian (texts_in (codes "pedestrian") rows)))
    (wires_of Preempt (texts_in (codes "preempt") rows))

-- whether a flag was set, which `clap` writes as its value
abbrev pub is_set : Option Text → Bool
is_set None = false
is_set (Some value) = bytes_eq value (codes "true")

-- the form of times of an option that may be left out
abbrev pub form_said : Option Text → Option (Option TimeForm)
form_said None = Some None
form_said (Some word) = option_map (λ (form : TimeForm). Some form) (time_form_named word)

-- the zone of an option that may be left out
abbrev pub zone_said : Option Text → Option (Option Zone)
zone_said None = Some None
zone_said (Some word) = option_map (λ (zone : Zone). Some zone) (zone_named word)

-- how many seconds a row may be late, where no number of them is said
abbrev pub usual_window : Bool → Option ℕ
usual_window sorts = if sorts then Some USUAL_WINDOW else None

-- how many seconds a row may be late, where rows are to be sorted and by an option that may be left out
abbrev pub window_said : Bool → Option Text → Option (Option ℕ)
window_said sorts None = Some (usual_window sorts)
window_said sorts (Some digits) = option_map (λ (n : ℕ). Some n) (window_of digits)

-- the same by these options
abbrev pub window_in : List Row → Option (Option ℕ)
window_in rows = window_said (is_set (first_of (codes "sort") rows)) (first_of (codes "sort-within") rows)

-- how events are read and what is told of them, where a form, a zone and a window are spelled
abbrev pub manner_with : Option (Option TimeForm) → Option (Option Zone) → Option (Option ℕ) → Bool → Bool → Option Manner
manner_with (Some times) (Some zone) (Some window) counts may_be_empty =
    Some (record { times = times; zone = zone; window = window; counts = counts; may_be_empty = may_be_empty })
manner_with times offset window counts may_be_empty = None

-- the same by these options
abbrev pub manner_in : List Row → Option Manner
manner_in rows =
    manner_with (form_said (first_of (codes "time-form") rows)) (zone_said (first_of (codes "zone") rows)) (window_in rows)
    (is_set (first_of (codes "count") rows)) (is_set (first_of (codes "allow-empty") rows))

-- a log, where it is said from when, in which manner and on which wires; with the plan that is named, where one is
abbrev pub log_with : Option Moment → Option Text → Option Manner → Option (List Wire) → Option Text → Option Wish
log_with (Some from) device (Some manner) (Some wires) plan =
    Some (log (record { from = from; device = device; wires = wires; manner = manner; as_outputs = plan }))
log_with from device manner wires plan = None

-- what `log` asks for, with these options
abbrev pub log_in : List Row → Option Wish
log_in rows =
    log_with (moment_in rows) (first_of (codes "device") rows) (manner_in rows) (wires_in rows) (first_of (codes "as-outputs") rows)

-- a record, where it is said from when, of which device and of which files, and a line can name that device
abbrev pub record_with : Option Moment → Option Text → Option Text → Option Text → RecordManner → Option Wish
record_with (Some from) (Some device) (Some plan) (Some file) manner =
    if can_be_written device then Some (recording from device plan file manner) else None
record_with from device plan file manner = None

-- how it runs commands, and what its events are, by these options
abbrev pub record_manner_in : List Row → RecordManner
record_manner_in rows = record {
  goes_on = is_set (first_of (codes "go-on") rows);
  recalls = is_set (first_of (codes "recalls") rows);
  outputs = is_set (first_of (codes "outputs") rows);
  no_clock = is_set (first_of (codes "no-clock") rows);
}

-- what `record` asks for, with these options and files
abbrev pub record_in : List Row → Option Wish
record_in rows =
    record_with (moment_in rows) (first_of (codes "device") rows) (first_of (codes "PLAN") rows) (first_of (codes "LOG") rows)
    (record_manner_in rows)

-- events, where it is said from when and of which device, and a line can name that
abbrev pub events_with : Option Moment → Option Text → Option Text → Bool → Option Wish
events_with (Some from) (Some device) file is_wide = if can_be_written device then Some (events from device file is_wide) else None
events_with from device file is_wide = None

-- what `events` asks for, with these options
abbrev pub events_in : List Row → Option Wish
events_in rows =
    events_with (moment_in rows) (first_of (codes "device") rows) (first_of (codes "log") rows) (is_set (first_of (codes "wide") rows))

-- events, where they are named, have a moment to count from
abbrev pub is_timed : Option Moment → Option Text → Bool
is_timed None (Some source) = false
is_timed None None = true
is_timed (Some from) source = true

-- a diagram, where its seconds and its moment are spelled, and events have a moment to count from
abbrev pub diagram_with : Option Text → Bool → Option Text → Option (Option ℕ) → Option (Option Moment) → Option Text → Option Wish
diagram_with file is_wide title (Some seconds) (Some from) source =
    if is_timed from source then Some (diagram file is_wide title seconds from source) else None
diagram_with file is_wide title seconds from source = None

-- what `diagram` asks for, with these options
abbrev pub diagram_in : List Row → Option Wish
diagram_in rows =
    diagram_with (first_of (codes "log") rows) (is_set (first_of (codes "wide") rows)) (first_of (codes "title") rows) (seconds_in rows) (from_said (first_of (codes "from") rows))
    (first_of (codes "events") rows)

-- a review, where a plan is named
abbrev pub review_with : Option Text → Option Wish
review_with None = None
review_with (Some plan) = Some (reviewing plan)

-- what `review` asks for, with this file
abbrev pub review_in : List Row → Option Wish
review_in rows = review_with (first_of (codes "PLAN") rows)

-- what runs in a week from this moment on, where there is one, as a picture or not
abbrev pub weekly_at : Text → Option ℕ → Bool → Option Wish
weekly_at plan None svg = None
weekly_at plan (Some week) svg = Some (weekly plan week svg)

-- the same, where a plan is named and a date that there is
abbrev pub schedule_with : Option Text → Option Text → Bool → Option Wish
schedule_with (Some plan) (Some date) svg = weekly_at plan (clock_of date midnight) svg
schedule_with plan date svg = None

-- what `schedule` asks for, with this file and these options
abbrev pub schedule_in : List Row → Option Wish
schedule_in rows =
    schedule_with (first_of (codes "PLAN") rows) (first_of (codes "week") rows) (is_set (first_of (codes "svg") rows))

-- a worksheet, where a plan is named
abbrev pub worksheet_with : Option Text → Option Wish
worksheet_with None = None
worksheet_with (Some plan) = Some (worksheet plan)

-- what `worksheet` asks for, with this file
abbrev pub worksheet_in : List Row → Option Wish
worksheet_in rows = worksheet_with (first_of (codes "PLAN") rows)

-- a card, where a plan is named, and that of a file beside it, if one is named too
abbrev pub card_with : Option Text → Option Text → Option Wish
card_with None against = None
card_with (Some plan) against = Some (card plan against)

-- what `card` asks for, with this file and this option
abbrev pub card_in : List Row → Option Wish
card_in rows = card_with (first_of (codes "PLAN") rows) (first_of (codes "against") rows)

-- what a subcommand of this name that is not `log` asks for, with these options
abbrev pub other_in : Text → List Row → Option Wish
other_in name rows =
    if bytes_eq name (codes "record") then record_in rows
    else (if bytes_eq name (codes "events") then events_in rows
    else (if bytes_eq name (codes "diagram") then diagram_in rows
    else (if bytes_eq name (codes "schedule") then schedule_in rows
    else (if bytes_eq name (codes "worksheet") then worksheet_in rows
    else (if bytes_eq name (codes "card") then card_in rows else review_in rows)))))

-- what the subcommand asks for that was met, with its options
abbrev pub asked_by : Option (Text × List Row) → Option Wish
asked_by None = None
asked_by (Some met) = if bytes_eq met.0 (codes "log") then log_in met.1 else other_in met.0 met.1

-- options of `log` whose moment and manner are spelled: memory may run out while their wires are listed
abbrev pub HasWires : List Row → Type 0
HasWires rows = IsSome (moment_in rows) × IsSome (manner_in rows)

-- the subcommand that was met may need memory: it is `log`, and its moment and manner are spelled
abbrev pub NeedsMemory : Option (Text × List Row) → Type 0
NeedsMemory None = ⊥
NeedsMemory (Some met) = (bytes_eq met.0 (codes "log") ≡ true) × HasWires met.1

-- what words ask for, of which the first is the program's name: by what `clap` reads of them where it takes them
abbrev pub wish_of : List Text → Option Wish
wish_of words = option_and_then asked_by (met_by program words)

-- words give this answer
abbrev pub Spells : List Text → Result Asked WordsError → Type 0
Spells words answer = SpelledBy seen (wish_of words) answer
