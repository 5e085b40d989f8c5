-- How far a filter has come by the lines that it has taken.
use Rattle.std.specs.Prelude.{◌≡◌, ◌≤◌, ◌++◌, ℕ, List, length, Option, option_map, Result, Ok, Err}
use Rattle.tsb_event_text.specs.TimeForms.{is_there}
use Rattle.tsb_field_log.specs.declared.inputs.InputEvent.{InputEvent}
use Rattle.tsb_field_log.specs.declared.inputs.Wire.{Wire}
use Rattle.tsb_field_log.specs.declared.street.KnownRows.{KnownRows}
use Rattle.tsb_field_log.specs.Streets.{tick_at, rows_in}
use Rattle.tsb_field_log.specs.Pushed.{last_tick, rows_before}
use Rattle.tsb_field_log.specs.Taken.{HasTaken}
use Rattle.tsb_field_log.specs.Wires.{form_of_wires}
use Rattle.tsb_log_text.specs.declared.read.TheConstants.{LIMIT}
use Rattle.tsb_field_streams.specs.Holding.{held_rows, most_rows}
use Rattle.tsb_field_streams.specs.declared.error.FilterError.{FilterError}
use Rattle.tsb_field_streams.specs.declared.filter.Filter.{Filter}
use Rattle.tsb_field_streams.specs.declared.filter.RowOptions.{RowOptions}
use Rattle.tsb_field_streams.specs.declared.filter.LeftOut.{LeftOut}
use Rattle.tsb_field_streams.specs.Filtering.{Given, Stand, most_held, start, text_by}

-- what a filter left out so far
abbrev pub left_out_of : Filter → LeftOut
left_out_of f = f.left_out

-- what is asked for
abbrev pub given_of : RowOptions → Option (List ℕ) → List Wire → Given
given_of reading device wires = record {
  from = reading.from.nanos;
  device = device;
  times = reading.times;
  zone = reading.zone;
  window = reading.window;
  wires = wires;
}

-- rows are read so
pub record IsRead (g : Given) (reading : RowOptions) : Type 0 where
  pub from : g.from ≡ reading.from.nanos
  pub times : g.times ≡ reading.times
  pub zone : g.zone ≡ reading.zone
  pub window : g.window ≡ reading.window

-- a filter of what is given has come to this
pub record StandsAt (g : Given) (s : Stand) (f : Filter) : Type 0 where
  pub reading : IsRead g f.reading
  pub device : g.device ≡ option_map (λ d. d.now) f.device
  pub wires : g.wires ≡ f.wires.now
  pub columns : f.columns ≡ s.columns
  pub times : f.times ≡ s.times
  pub zoned : f.zoned ≡ s.zoned
  pub counted : f.counted ≡ s.counted
  pub first : f.first ≡ s.first
  pub last : f.last ≡ s.last
  pub gaps : f.gaps ≡ s.gaps
  pub devices : f.devices ≡ s.devices
  pub strays : f.unwired ≡ s.strays
  pub used : f.used.items ≡ s.used
  pub others : f.left_out.of_other_devices ≡ s.others
  pub unwired : f.left_out.without_input ≡ s.unwired
  pub passed : f.left_out.passed ≡ s.passed
  pub found : f.left_out.found ≡ is_there s.columns
  pub street : HasTaken g.from g.wires s.events f.street
  pub behind : last_tick g.from s.events ≤ tick_at g.from s.last
  pub form : f.form ≡ form_of_wires g.wires
  pub bytes : f.bytes ≡ length (text_by g (rows_before g.from g.wires s.events))
  pub few : f.bytes ≤ LIMIT
  pub held : held_rows f.held ≡ s.held
  pub most : most_rows f.held ≡ most_held g.window
  pub latest : f.latest ≡ s.latest

-- a filter of what is given is before the first line
abbrev pub StandsAtStart : Given → Filter → Type 0
StandsAtStart g f = StandsAt g (start g) f

-- a filter of which these events were known has taken what comes to this, with these rows of the log become known; or it has
-- its fault
abbrev pub TakesBehind : Given → List InputEvent → Result Stand FilterError → Result KnownRows FilterError → Filter → Type 0
TakesBehind g events (Ok t) (Ok rows) f = StandsAt g t f × (rows_before g.from g.wires t.events ≡ rows_before g.from g.wires events ++ rows_in rows)
TakesBehind g events (Err e) (Err d) f = d ≡ e
TakesBehind g events come given f = ⊥

-- so of a filter that stood there
abbrev pub Takes : Given → Stand → Result Stand FilterError → Result KnownRows FilterError → Filter → Type 0
Takes g s come given f = TakesBehind g s.events come given f
