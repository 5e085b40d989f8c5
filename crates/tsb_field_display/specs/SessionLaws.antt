-- What holds of the events of a session, in words that do not retrace how they are found. Each law here is the contract
-- of a function in src/laws.rt.
use Rattle.std.specs.Prelude.{◌≡◌, ◌⊎◌, ℕ, ◌<◌, ◌^◌, Bool, true, not, List, [], ◌∷◌, ◌++◌, filter, Option, Some, All}
use Rattle.tsb_types.specs.Lists.{among}
use Rattle.tsb_event_text.specs.declared.times.Moment.{Moment}
use Rattle.tsb_event_text.specs.Columns.{header_of, usual_columns}
use Rattle.tsb_event_text.specs.Events.{IsTaken, can_be_written}
use Rattle.tsb_event_text.specs.Rows.{is_asked, row_of}
use Rattle.tsb_log_text.specs.declared.log.LogRow.{LogRow}
use Rattle.tsb_log_text.specs.Logs as logs
use Rattle.tsb_types.specs.declared.event.Event.{Event}
use Rattle.tsb_field_display.specs.declared.shown.Shown.{Shown}
use Rattle.tsb_field_display.specs.Events.{events_of_lines}
use Rattle.tsb_field_display.specs.Remaining.{Rises}
use Rattle.tsb_field_display.specs.Inputs.{events_of_rows}
use Rattle.tsb_field_display.specs.Merge.{session_events}
use Rattle.tsb_field_display.specs.Ticks.{moment_of_tick}
use Rattle.tsb_field_display.specs.Texts.{header_text, IsLine}

-- ## Order

-- one event comes before another: at an earlier tick, or then by its code, or then by its parameter
abbrev pub IsBefore : Event → Event → Type 0
IsBefore one other =
    (one.tick < other.tick)
    ⊎ ((one.tick ≡ other.tick) × ((one.code < other.code) ⊎ ((one.code ≡ other.code) × (one.parameter < other.parameter))))

-- each event comes before all later ones
abbrev pub AreInOrder : List Event → Type 0
AreInOrder [] = Unit {0}
AreInOrder (event ∷ events) = All (IsBefore event) events × AreInOrder events

-- the ticks of rows rise
abbrev pub RowsRise : List LogRow → Type 0
RowsRise [] = Unit {0}
RowsRise (row ∷ rows) = logs.Rises row.tick rows

-- where the ticks of display lines rise, and those of rows, the events are in order
abbrev pub StandInOrder : Type 0
StandInOrder = (changes : List Shown) (rows : List LogRow) → Rises changes → RowsRise rows → AreInOrder (session_events changes rows)

-- ## Nothing is lost, and nothing is made

-- an event of an input, by its code
abbrev pub is_of_input : Event → Bool
is_of_input event = among event.code (81 ∷ 82 ∷ 89 ∷ 90 ∷ 102 ∷ 104 ∷ [])

-- the events of inputs are those of the rows, one after the other, and the others are those of the display lines
abbrev pub AreAllTold : Type 0
AreAllTold = (changes : List Shown) (rows : List LogRow) →
    (filter is_of_input (session_events changes rows) ≡ events_of_rows rows)
    × (filter (λ event. not (is_of_input event)) (session_events changes rows) ≡ events_of_lines changes)

-- ## Lines are read again

-- the first line, without its feed, names the usual columns
abbrev pub HeaderIsRead : Type 0
HeaderIsRead = (row : List ℕ) × (header_text ≡ row ++ 10 ∷ []) × (header_of row ≡ Some usual_columns)

-- the line of an event, without its feed, is read by the usual columns as that event at the moment of its tick, and
-- readers of logs take it
abbrev pub LinesAreRead : Type 0
LinesAreRead = (from : Moment) (device line : List ℕ) (event : Event) (asked : Option (List ℕ)) →
    can_be_written device ≡ true → IsLine from device event line → event.code < 2 ^ 32 → event.parameter < 2 ^ 32 →
    (row : List ℕ) × (line ≡ row ++ 10 ∷ [])
    × (row_of usual_columns asked row ≡ Some (record {
      ours = is_asked asked device;
      moment = moment_of_tick from event.tick;
      code = event.code;
      parameter = event.parameter;
    }))
    × IsTaken row
