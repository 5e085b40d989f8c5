-- The text of events.
use Rattle.std.specs.Prelude.{◌≡◌, ℕ, List, [], ◌∷◌, ◌++◌, codes, Some, Result, Ok, Err, Vec}
use Rattle.tsb_event_text.specs.declared.times.Moment.{Moment}
use Rattle.tsb_event_text.specs.Events.{event_text, IsPlain}
use Rattle.tsb_event_text.specs.Times.{moment_of}
use Rattle.tsb_log_text.specs.declared.log.LogRow.{LogRow}
use Rattle.tsb_field_display.specs.declared.shown.Shown.{Shown}
use Rattle.tsb_types.specs.declared.event.Event.{Event}
use Rattle.tsb_field_display.specs.declared.events_error.EventsError.{EventsError}
use Rattle.tsb_field_display.specs.declared.events_error.EventsError.TheVariants.{Memory, Late}
use Rattle.tsb_field_display.specs.Merge.{session_events}
use Rattle.tsb_field_display.specs.Ticks.{AreWritten, moment_of_tick}

-- the line that names the columns
abbrev pub header_text : List ℕ
header_text = codes "SignalID,Timestamp,EventCode,EventParam\n"

-- a text is read as this moment, and has no comma and no double quote
pub record Tells (moment : Moment) (time : List ℕ) : Type 0 where
  pub read : moment_of time ≡ Some moment
  pub plain : IsPlain time

-- this is the line of an event, where tick 1 is at this moment
pub record IsLine (from : Moment) (device : List ℕ) (event : Event) (line : List ℕ) : Type 0 where
  pub time : List ℕ
  pub tells : Tells (moment_of_tick from event.tick) time
  pub text : line ≡ event_text device time event.code event.parameter

-- these are the lines of events, one after the other
abbrev pub AreLines : Moment → List ℕ → List Event → List ℕ → Type 0
AreLines from device [] lines = lines ≡ []
AreLines from device (event ∷ events) lines =
    (line rest : List ℕ) × (lines ≡ line ++ rest) × IsLine from device event line × AreLines from device events rest

-- a text has the header and then a line for each event
pub record IsLog (from : Moment) (device : List ℕ) (events : List Event) (text : List ℕ) : Type 0 where
  pub lines : List ℕ
  pub behind : text ≡ header_text ++ lines
  pub told : AreLines from device events lines

-- what a call gives: where each tick has a time, the log of these events, unless memory runs out; and otherwise that it
-- is late
abbrev pub LogWritten : {A : Type 0} → Result (Vec ℕ A) EventsError → Moment → List ℕ → List Event → Type 0
LogWritten (Ok text) from device events = AreWritten from × IsLog from device events text.items
LogWritten (Err Memory) from device events = AreWritten from
LogWritten (Err Late) from device events = AreWritten from → ⊥

-- so of the events of a session
abbrev pub EventsWritten : {A : Type 0} → Result (Vec ℕ A) EventsError → Moment → List ℕ → List Shown → List LogRow → Type 0
EventsWritten result from device changes rows = LogWritten result from device (session_events changes rows)
