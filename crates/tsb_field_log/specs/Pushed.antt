-- The rows of a log that have become known by the events so far, and those that further events make known.
use Rattle.std.specs.Prelude.{ℕ, ◌+◌, ◌-◌, ◌≤◌, List, [], ◌∷◌, ◌++◌}
use Rattle.tsb_types.specs.Sets.{all_off}
use Rattle.tsb_types.specs.declared.limits.TheConstants.{TICKS}
use Rattle.tsb_log_text.specs.declared.log.LogRow.{LogRow}
use Rattle.tsb_field_log.specs.Ticks.{row_in}
use Rattle.tsb_field_log.specs.Changes.{changes}
use Rattle.tsb_field_log.specs.Streets.{rows_until, tick_at, unwritten}
use Rattle.tsb_field_log.specs.declared.inputs.Wire.{Wire}
use Rattle.tsb_field_log.specs.declared.inputs.InputEvent.{InputEvent}

-- the tick of the last of these events, where that of the event before them is this one
abbrev pub last_tick_behind : ℕ → ℕ → List InputEvent → ℕ
last_tick_behind from tick [] = tick
last_tick_behind from tick (e ∷ es) = last_tick_behind from (tick_at from e.nanos) es

-- the tick of the last of these events, and 0 before any
abbrev pub last_tick : ℕ → List InputEvent → ℕ
last_tick from events = last_tick_behind from 0 events

-- these events come in the order of their ticks, after one of this tick, and none is past the last tick of a bench
abbrev pub AreInOrderBehind : ℕ → ℕ → List InputEvent → Type 0
AreInOrderBehind from tick [] = tick ≤ TICKS
AreInOrderBehind from tick (e ∷ es) = (tick ≤ tick_at from e.nanos) × AreInOrderBehind from (tick_at from e.nanos) es

-- these events come in the order of their ticks, and none is past the last tick of a bench
abbrev pub AreInOrder : ℕ → List InputEvent → Type 0
AreInOrder from events = AreInOrderBehind from 0 events

-- the rows of the ticks before that of the last of these events: no later event changes them
abbrev pub rows_before : ℕ → List Wire → List InputEvent → List LogRow
rows_before from wires events = changes (row_in from wires events) all_off 1 (unwritten (last_tick from events) - 1)

-- what a street gives after the first events, for more of them one after another, and as it is finished
abbrev pub rows_given : ℕ → List Wire → List InputEvent → List InputEvent → List LogRow
rows_given from wires events [] = rows_until from wires events (last_tick from events) (TICKS + 1)
rows_given from wires events (e ∷ more) =
    rows_until from wires events (last_tick from events) (tick_at from e.nanos) ++ rows_given from wires (events ++ e ∷ []) more
