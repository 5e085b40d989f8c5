-- The order of the events of one input: by code, and those of one code by their parameters.
use Rattle.std.specs.Prelude.{◌≡◌, ◌⊎◌, ℕ, ◌<◌, List, [], ◌∷◌, All}
use Rattle.tsb_step.specs.tsb_types.declared.event.Event.{Event}
use Rattle.tsb_step.specs.declared.inputs.Input.{Input}
use Rattle.tsb_step.specs.Events as events
use Rattle.tsb_step.specs.declared.log_form.Noted.{Noted}
use Rattle.tsb_step.specs.Events.{View, Found, Selected}
use Rattle.tsb_step.specs.State.{State}
use Rattle.tsb_step.specs.Step.{step}

-- one event comes before another of its tick: by its code, or then by its parameter
abbrev pub StandsBefore : Event → Event → Type 0
StandsBefore one other =
    (one.tick ≡ other.tick) × ((one.code < other.code) ⊎ ((one.code ≡ other.code) × (one.parameter < other.parameter)))

-- each event comes before all later ones; so no two are the same
abbrev pub AreInOrder : List Event → Type 0
AreInOrder [] = Unit {0}
AreInOrder (event ∷ events) = All (StandsBefore event) events × AreInOrder events

-- ## Laws

-- those of a tick are in order, whatever a log sees before it and after it
abbrev pub TicksTellInOrder : Type 0
TicksTellInOrder = (tick : ℕ) (f : Found) (was now : View) → AreInOrder (events.tick_events tick f was now)

-- and those of any other input
abbrev pub OthersTellInOrder : Type 0
OthersTellInOrder = (tick : ℕ) (noted : Noted) (was now : View) (s t : Selected) → AreInOrder (events.other_events tick noted was now s t)

-- so those of an input are, at whatever state it comes
abbrev pub InputsTellInOrder : Type 0
InputsTellInOrder = (noted : Noted) (s : State) (i : Input) → AreInOrder (events.events_of noted s i)

-- each event of an input has the tick number that is in force after it
abbrev pub EventsHaveTheTick : Type 0
EventsHaveTheTick = (noted : Noted) (s : State) (i : Input) → All (λ e. e.tick ≡ (step s i).now) (events.events_of noted s i)
