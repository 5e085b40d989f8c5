-- How far a street has come: the tick of its last event, and what stands before it.
use Rattle.std.specs.Prelude.{◌≡◌, ℕ, ◌+◌, ◌-◌, ◌/◌, ◌<◌, nat_le, nat_lt, List, [], ◌∷◌, ◌++◌, map, if◌then◌else◌, option_to_list}
use Rattle.tsb_types.specs.Sets.{all_off}
use Rattle.tsb_types.specs.declared.row.Row.{Row}
use Rattle.tsb_log_text.specs.declared.log.LogRow.{LogRow}
use Rattle.tsb_field_log.specs.Ticks.{begin_of, row_in}
use Rattle.tsb_field_log.specs.Changes.{changes}
use Rattle.tsb_field_log.specs.Leads.{lead_of}
use Rattle.tsb_field_log.specs.declared.inputs.Wire.{Wire}
use Rattle.tsb_field_log.specs.declared.inputs.InputEvent.{InputEvent}
use Rattle.tsb_field_log.specs.declared.street.Street.{Street}
use Rattle.tsb_field_log.specs.declared.street.KnownRows.{KnownRows}

-- the tick that a moment lies in, and 0 where it is before tick 1
abbrev pub tick_at : ℕ → ℕ → ℕ
tick_at from moment = if nat_lt moment from then 0 else (moment - from) / 100000000 + 1

-- each of these is before the moment
abbrev pub AreBefore : ℕ → List InputEvent → Type 0
AreBefore moment [] = Unit {0}
AreBefore moment (e ∷ es) = (e.nanos < moment) × AreBefore moment es

-- the row before that of a tick
abbrev pub row_before : (ℕ → Row) → ℕ → Row
row_before inputs tick = if nat_le tick 1 then all_off else inputs (tick - 1)

-- the first tick of which no row is written yet, where this is the tick of the last event
abbrev pub unwritten : ℕ → ℕ
unwritten tick = if nat_le 1 tick then tick else 1

-- a street has come to its present tick by these events, on these wires
pub record Follows (wires : List Wire) (events : List InputEvent) (street : Street) : Type 0 where
  pub leads : street.leads.items ≡ map (lead_of street.from street.tick events) wires
  pub ended : AreBefore (begin_of street.from (street.tick + 1)) events
  pub before : street.before ≡ row_before (row_in street.from wires events) street.tick

-- the rows that become known as a tick begins, where the last of these events fell into an earlier one
abbrev pub rows_until : ℕ → List Wire → List InputEvent → ℕ → ℕ → List LogRow
rows_until from wires events tick to =
    changes (row_in from wires events) (row_before (row_in from wires events) (unwritten tick)) (unwritten tick) (to - unwritten tick)

-- rows one after the other
abbrev pub rows_in : KnownRows → List LogRow
rows_in rows = option_to_list rows.first ++ option_to_list rows.second
