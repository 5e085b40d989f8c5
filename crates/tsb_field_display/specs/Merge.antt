-- The events of a session: those of display lines and those of inputs, in one order.
use Rattle.std.specs.Prelude.{◌==◌, ◌&&◌, ◌||◌, nat_lt, Bool, List, [], ◌∷◌, ◌++◌, if◌then◌else◌}
use Rattle.tsb_log_text.specs.declared.log.LogRow.{LogRow}
use Rattle.tsb_field_display.specs.declared.shown.Shown.{Shown}
use Rattle.tsb_types.specs.declared.event.Event.{Event}
use Rattle.tsb_field_display.specs.Events.{events_of_lines}
use Rattle.tsb_field_display.specs.Inputs.{events_of_rows}

-- one comes before the other: by tick, then code, then parameter
abbrev pub comes_before : Event → Event → Bool
comes_before one other =
    nat_lt one.tick other.tick || one.tick == other.tick
    && (nat_lt one.code other.code || one.code == other.code && nat_lt one.parameter other.parameter)

-- the first of these events, as long as they come before this one
abbrev pub ahead_of : Event → List Event → List Event
ahead_of event [] = []
ahead_of event (e ∷ es) = if comes_before e event then e ∷ ahead_of event es else []

-- what follows those
abbrev pub not_ahead_of : Event → List Event → List Event
not_ahead_of event [] = []
not_ahead_of event (e ∷ es) = if comes_before e event then not_ahead_of event es else e ∷ es

-- two lists of events as one: an event of the second stands before one of the first where it comes before it
abbrev pub merged : List Event → List Event → List Event
merged [] others = others
merged (e ∷ es) others = ahead_of e others ++ e ∷ merged es (not_ahead_of e others)

-- the events of a session, of the changes of its display lines and the rows of its log
unfoldable pub session_events : List Shown → List LogRow → List Event
session_events changes rows = merged (events_of_lines changes) (events_of_rows rows)
