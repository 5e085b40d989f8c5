-- What the events of a run say. Those of display lines are among them, as are those of inputs, and they give the heads
-- at its end. Each law here is the contract of a function in src/events.rt.
use Rattle.std.specs.Prelude.{◌≡◌, ℕ, ◌≤◌, ◌==◌, nat_le, Bool, true, false, not, ◌&&◌, ◌||◌, List, [], ◌∷◌, ◌++◌, filter, Option, Some, None, is_some, if◌then◌else◌}
use Rattle.tsb_step.specs.tsb_types.Lists.{among}
use Rattle.tsb_step.specs.tsb_types.Sets.{has_number, is_same_row}
use Rattle.tsb_step.specs.tsb_types.declared.event.Event.{Event}
use Rattle.tsb_step.specs.tsb_types.declared.limits.TheConstants.{VEHICLE_DETECTORS, OVERLAPS}
use Rattle.tsb_step.specs.tsb_types.declared.row.Row.{Row}
use Rattle.tsb_step.specs.tsb_heads.Colours as colours
use Rattle.tsb_step.specs.tsb_heads.Monitoring as monitor
use Rattle.tsb_step.specs.tsb_plan.Plan.{Plan}
use Rattle.tsb_step.specs.declared.inputs.Input.{Input}
use Rattle.tsb_step.specs.declared.inputs.Input.TheVariants.{Tick}
use Rattle.tsb_step.specs.declared.log_form.LogForm.{LogForm}
use Rattle.tsb_step.specs.declared.log_form.Noted.{Noted}
use Rattle.tsb_step.specs.Events.{events_of, requests, vehicles_in, view}
use Rattle.tsb_step.specs.Laws.{IsConsistent}
use Rattle.tsb_step.specs.Runs.{replay, AreTaken}
use Rattle.tsb_step.specs.Signs.{display}
use Rattle.tsb_step.specs.State.{State}
use Rattle.tsb_text.specs.Answers.{line_in}
use Rattle.tsb_text.specs.kept.Kept.{last_row}
use Rattle.tsb_text.specs.recording.Along.{told_along}
use Rattle.tsb_log_text.specs.declared.log.LogRow.{LogRow}
use Rattle.tsb_field_display.specs.declared.shown.Shown.{Shown}
use Rattle.tsb_field_display.specs.declared.shown.Signals.{Signals}
use Rattle.tsb_field_display.specs.Events as display_lines
use Rattle.tsb_field_display.specs.Reading.{shown_of, signals_of}
use Rattle.tsb_field_display.specs.ReadBack.{Lit, lit_after, read_back, says_at}
use Rattle.tsb_field_display.specs.Inputs.{events_of_rows}
use Rattle.tsb_field_display.specs.SessionLaws.{is_of_input}

-- ## Display lines

-- what the display line of a state shows, or the wide one
abbrev pub signals : Bool → State → Signals
signals is_wide s = signals_of is_wide (line_in is_wide s)

-- with its tick
abbrev pub shown_in : Bool → State → Shown
shown_in is_wide s = record { tick = s.now; signals = signals is_wide s }

-- the line of each state of a run is read as this
abbrev pub LinesAreReadInRuns : Type 0
LinesAreReadInRuns = (is_wide : Bool) (plan : Plan) (is : List Input) → IsConsistent plan → AreTaken plan is →
    shown_of is_wide (line_in is_wide (replay plan is)) ≡ Some (shown_in is_wide (replay plan is))

-- the line shows what the event is about: overlaps 1 to 4, and a wide line all
abbrev pub is_on_line : Bool → Event → Bool
is_on_line is_wide e = is_wide || (not (among e.code (32 ∷ 33 ∷ 61 ∷ 63 ∷ 64 ∷ [])) || nat_le e.parameter 4)

-- lines have events of this code, and it is of what the line shows
abbrev pub is_of_line : Bool → Event → Bool
is_of_line is_wide e =
    among e.code (1 ∷ 7 ∷ 8 ∷ 9 ∷ 21 ∷ 22 ∷ 23 ∷ 32 ∷ 33 ∷ 61 ∷ 63 ∷ 64 ∷ 105 ∷ 173 ∷ []) && is_on_line is_wide e

-- the events that come of the lines before and after an input are those of lines among its events
abbrev pub LinesTellTheSame : Type 0
LinesTellTheSame = (is_wide : Bool) (plan : Plan) (is : List Input) (i : Input) (noted : Noted) → IsConsistent plan → plan.phase_count ≤ 16 →
    AreTaken plan (i ∷ is) →
    display_lines.events_of (signals is_wide (replay plan is)) (shown_in is_wide (replay plan (i ∷ is)))
    ≡ filter (is_of_line is_wide) (events_of noted (replay plan is) i)

-- ## Heads

-- these are the heads that the display shows green, yellow, flashing yellow, in walk and in clearance, and whether the
-- controller is in flash
pub record TellsHeads (lit : Lit) (s : State) : Type 0 where
  pub green : (p : ℕ) → 1 ≤ p → p ≤ 16 → lit.green p ≡ monitor.is_green ((display s).vehicle p)
  pub yellow : (p : ℕ) → 1 ≤ p → p ≤ 16 → lit.yellow p ≡ colours.is_yellow ((display s).vehicle p)
  pub walk : (p : ℕ) → 1 ≤ p → p ≤ 16 → lit.walk p ≡ colours.shows_walk ((display s).pedestrian p)
  pub clearance : (p : ℕ) → 1 ≤ p → p ≤ 16 → lit.clearance p ≡ colours.shows_clearance ((display s).pedestrian p)
  pub overlap_green : (o : ℕ) → 1 ≤ o → o ≤ OVERLAPS → lit.overlap_green o ≡ monitor.is_green ((display s).overlap o)
  pub overlap_yellow : (o : ℕ) → 1 ≤ o → o ≤ OVERLAPS → lit.overlap_yellow o ≡ colours.is_yellow ((display s).overlap o)
  pub overlap_arrow : (o : ℕ) → 1 ≤ o → o ≤ OVERLAPS → lit.overlap_arrow o ≡ colours.is_flashing_yellow ((display s).overlap o)
  pub flash : lit.flash ≡ is_some s.trip

-- the events of a run say what the heads show at its end, whatever the form of the log is
abbrev pub RunsTellTheHeads : Type 0
RunsTellTheHeads = (form : LogForm) (plan : Plan) (is : List Input) → IsConsistent plan → plan.phase_count ≤ 16 → AreTaken plan is →
    TellsHeads (read_back (told_along form plan is)) (replay plan is)

-- ## Inputs

-- a row of a log, where its inputs are not those of the tick before
abbrev pub if_changed : Row → ℕ → Row → List LogRow
if_changed last tick row = if is_same_row last row then [] else record { tick = tick; row = row } ∷ []

-- the log of a run: the row of each tick whose inputs are not those of the tick before
abbrev pub log_of : Plan → List Input → List LogRow
log_of plan [] = []
log_of plan (Tick row ∷ is) = log_of plan is ++ if_changed (last_row is) (replay plan (Tick row ∷ is)).now row
log_of plan (i ∷ is) = log_of plan is

-- what a code says of a vehicle input
abbrev pub says_vehicle : ℕ → Option Bool
says_vehicle code = if code == 82 then Some true else (if code == 81 then Some false else None)

-- of a pedestrian input
abbrev pub says_pedestrian : ℕ → Option Bool
says_pedestrian code = if code == 90 then Some true else (if code == 89 then Some false else None)

-- of the request of a preempt
abbrev pub says_preempt : ℕ → Option Bool
says_preempt code = if code == 102 then Some true else (if code == 104 then Some false else None)

-- for each vehicle detector, pedestrian detector and preempt, the last of these events that is about it says whether it
-- is on: in a log of this form, with the inputs of this row at a state. Before them all are off. A vehicle detector is
-- on by its input, or by its output; a preempt by its input or its switch
pub record TellsInputs (es : List Event) (form : LogForm) (row : Row) (s : State) : Type 0 where
  pub vehicles : (d : ℕ) → 1 ≤ d → d ≤ VEHICLE_DETECTORS → lit_after (says_at says_vehicle d) false es ≡ vehicles_in form row (view s) d
  pub pedestrians : (d : ℕ) → 1 ≤ d → d ≤ 16 → lit_after (says_at says_pedestrian d) false es ≡ has_number row.pedestrians d
  pub preempts : (n : ℕ) → 1 ≤ n → n ≤ 16 → lit_after (says_at says_preempt n) false es ≡ requests row (view s) n

-- the events of a run give the inputs of its newest tick
abbrev pub RunsTellTheInputs : Type 0
RunsTellTheInputs = (form : LogForm) (plan : Plan) (is : List Input) →
    TellsInputs (told_along form plan is) form (last_row is) (replay plan is)

-- no preempt's switch is on at any state of a run
abbrev pub AreSwitchesOff : Plan → List Input → Type 0
AreSwitchesOff plan [] = Unit {0}
AreSwitchesOff plan (i ∷ is) = ((n : ℕ) → (replay plan (i ∷ is)).preempts.switch n ≡ false) × AreSwitchesOff plan is

-- the events of inputs among those of a run are those of its log, where these are of inputs alone
abbrev pub InputsMakeTheLog : Type 0
InputsMakeTheLog = (form : LogForm) (plan : Plan) (is : List Input) → form.outputs ≡ false → AreSwitchesOff plan is →
    filter is_of_input (told_along form plan is) ≡ events_of_rows (log_of plan is)
