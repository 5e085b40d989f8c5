-- What inputs have told, the oldest first: their events, and a mark for each input that is no tick. It can be taken back
-- without the inputs: the events of a tick have its number, and a mark says how many events came before its input.
use Rattle.std.specs.Prelude.{◌≡◌, ℕ, List, [], ◌∷◌, ◌++◌, length, take}
use Rattle.tsb_types.specs.declared.event.Event.{Event}
use Rattle.tsb_text.specs.declared.recording.told.Mark.{Mark}
use Rattle.tsb_text.specs.Later.{event_tick, without_later}

-- the events and the marks
pub record Telling : Type 0 where
  pub events : List Event
  pub marks : List Mark

-- what is kept of it, and for how many more events and marks there is memory
pub record Stored : Type 0 where
  pub told : Telling
  pub event_room : ℕ
  pub mark_room : ℕ

-- no input has told anything
abbrev pub nothing_told : Telling
nothing_told = record { events = []; marks = [] }

-- a tick has told these events
abbrev pub with_events : List Event → Telling → Telling
with_events news told = record told { events = told.events ++ news }

-- an input that is no tick has told these events, with this tick in force
abbrev pub with_mark : ℕ → List Event → Telling → Telling
with_mark tick news told = record {
  events = told.events ++ news;
  marks = told.marks ++ record { tick = tick; events = length told.events } ∷ [];
}

-- ## Back to a tick

-- the tick of a mark
abbrev pub mark_tick : Mark → ℕ
mark_tick m = m.tick

-- what was told up to a tick
abbrev pub gone_back : ℕ → Telling → Telling
gone_back t told =
    record told { events = without_later event_tick t told.events; marks = without_later mark_tick t told.marks }

-- the newest input, which is no tick, is taken back by its mark
abbrev pub DropsMark : Telling → Telling → Type 0
DropsMark old new = (marks : List Mark) (mark : Mark) → old.marks ≡ marks ++ mark ∷ [] → new ≡ record { events = take mark.events old.events; marks = marks }
