-- What holds of the logs that are written, in words that do not retrace how they are. Each law here is the contract of a
-- function in src/laws.rt.
use Rattle.std.specs.Prelude.{◌≡◌, ◌⊎◌, ◌↔◌, ℕ, ◌+◌, ◌*◌, ◌<◌, ◌≤◌, true, false, List, [], ◌∷◌, ◌++◌, length, Contains, Ok}
use Rattle.tsb_types.specs.Sets.{has_detector, has_number}
use Rattle.tsb_types.specs.declared.limits.TheConstants.{TICKS}
use Rattle.tsb_log_text.specs.Logs.{log_of, row_at}
use Rattle.tsb_log_text.specs.declared.log.LogRow.{LogRow}
use Rattle.tsb_field_log.specs.Inputs.{is_of, on_at, most_inputs}
use Rattle.tsb_field_log.specs.Ticks.{begin_of, is_on_in, input_on, row_in}
use Rattle.tsb_field_log.specs.Changes.{rows_of}
use Rattle.tsb_field_log.specs.Streets.{rows_until, tick_at}
use Rattle.tsb_field_log.specs.Pushed.{AreInOrder, AreInOrderBehind, last_tick, rows_before, rows_given}
use Rattle.tsb_field_log.specs.Wires.{form_of_wires}
use Rattle.tsb_log_text.specs.ListText.{text_in}
use Rattle.tsb_log_text.specs.declared.form.RowForm.TheVariants.{Digits}
use Rattle.tsb_log_text.specs.declared.list_line.TheConstants.{LISTS_LINE}
use Rattle.tsb_field_log.specs.declared.inputs.InputKind.TheVariants.{Vehicle, Pedestrian, Preempt}
use Rattle.tsb_field_log.specs.declared.inputs.Wire.{Wire}
use Rattle.tsb_field_log.specs.declared.inputs.InputEvent.{InputEvent}

-- the moment lies in the tick
abbrev pub IsIn : ℕ → ℕ → ℕ → Type 0
IsIn from tick moment = (begin_of from tick ≤ moment) × (moment < begin_of from (tick + 1))

-- a wire is on in a tick at some moment of which it is on, or in which it is switched on, though off again at the same
-- moment; so no pulse is lost
abbrev pub OnAtSomeMoment : ℕ → Wire → ℕ → List InputEvent → Type 0
OnAtSomeMoment from wire tick events =
    ((moment : ℕ) × IsIn from tick moment × (on_at false wire moment events ≡ true))
    ⊎ ((event : InputEvent) × Contains events event × (is_of wire event ≡ true) × (event.on ≡ true) × IsIn from tick event.nanos)

-- every wire is so in every tick, of all events
abbrev pub AreOnAtSomeMoment : Type 0
AreOnAtSomeMoment = (from : ℕ) (wire : Wire) (tick : ℕ) (events : List InputEvent) → 1 ≤ tick
    → (is_on_in from wire tick events ≡ true) ↔ OnAtSomeMoment from wire tick events

-- the text of all rows, in the form of a log by these wires
abbrev pub whole_text : ℕ → List Wire → List InputEvent → List ℕ
whole_text from wires events = text_in (form_of_wires wires) (rows_of (row_in from wires events))

-- what is written is a log, of those rows, where it has at most 64 MiB
abbrev pub AreLogs : Type 0
AreLogs = (from : ℕ) (wires : List Wire) (events : List InputEvent)
    → length (whole_text from wires events) ≤ 67108864
    → log_of (whole_text from wires events) ≡ Ok (rows_of (row_in from wires events))

-- each row by digits has 39 bytes
abbrev pub AreLong : Type 0
AreLong = (from : ℕ) (wires : List Wire) (events : List InputEvent) → form_of_wires wires ≡ Digits
    → length (whole_text from wires events) ≡ 39 * length (rows_of (row_in from wires events))

-- and any row has at most as many as the longest by lists
abbrev pub AreShort : Type 0
AreShort = (from : ℕ) (wires : List Wire) (events : List InputEvent)
    → length (whole_text from wires events) ≤ LISTS_LINE * length (rows_of (row_in from wires events))

-- the row in force at a tick of a bench has the inputs of that tick
abbrev pub AreInForce : Type 0
AreInForce = (from : ℕ) (wires : List Wire) (events : List InputEvent) (tick : ℕ) → 1 ≤ tick → tick ≤ TICKS
    → row_at (rows_of (row_in from wires events)) tick ≡ row_in from wires events tick

-- and these are on in it: exactly those to which a wire leads that is on in that tick
abbrev pub AreTheInputs : Type 0
AreTheInputs = (from : ℕ) (wires : List Wire) (events : List InputEvent) (tick number : ℕ) → 1 ≤ number
    → (number ≤ most_inputs Vehicle → has_detector (row_in from wires events tick).vehicles number ≡ input_on from wires events tick Vehicle number)
    × (number ≤ most_inputs Pedestrian → has_number (row_in from wires events tick).pedestrians number ≡ input_on from wires events tick Pedestrian number)
    × (number ≤ most_inputs Preempt → has_number (row_in from wires events tick).preempts number ≡ input_on from wires events tick Preempt number)

-- one more event makes exactly the rows known that `push` gives
abbrev pub AddOneEvent : Type 0
AddOneEvent = (from : ℕ) (wires : List Wire) (events : List InputEvent) (event : InputEvent) → last_tick from events ≤ tick_at from event.nanos
    → rows_before from wires (events ++ event ∷ []) ≡ rows_before from wires events ++ rows_until from wires events (last_tick from events) (tick_at from event.nanos)

-- where no event comes any more, those that `finish` gives complete the log
abbrev pub AddTheEnd : Type 0
AddTheEnd = (from : ℕ) (wires : List Wire) (events : List InputEvent) → last_tick from events ≤ TICKS
    → rows_before from wires events ++ rows_until from wires events (last_tick from events) (TICKS + 1) ≡ rows_of (row_in from wires events)

-- so all that a street gives is the log of all its events, no row of it twice and none left out
abbrev pub AddUpToTheLog : Type 0
AddUpToTheLog = (from : ℕ) (wires : List Wire) (events : List InputEvent) → AreInOrder from events
    → rows_given from wires [] events ≡ rows_of (row_in from wires events)

-- and the rows known so far begin the log, whatever events follow
abbrev pub BeginTheLog : Type 0
BeginTheLog = (from : ℕ) (wires : List Wire) (events more : List InputEvent) → AreInOrderBehind from (last_tick from events) more
    → (rest : List LogRow) × (rows_of (row_in from wires (events ++ more)) ≡ rows_before from wires events ++ rest)
