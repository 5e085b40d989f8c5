-- Inputs of a bench, the channels of a controller that lead to them, and when a channel is on.
use Rattle.std.specs.Prelude.{ℕ, ◌==◌, ◌&&◌, ◌||◌, nat_le, nat_lt, Bool, true, false, List, [], ◌∷◌, if◌then◌else◌, Option, Some, None}
use Rattle.tsb_log_text.specs.tsb_types.declared.limits.TheConstants.{PEDESTRIAN_DETECTORS, PREEMPTS, VEHICLE_DETECTORS}
use Rattle.tsb_field_log.specs.declared.inputs.InputKind.{InputKind}
use Rattle.tsb_field_log.specs.declared.inputs.InputKind.TheVariants.{Vehicle, Pedestrian, Preempt}
use Rattle.tsb_field_log.specs.declared.inputs.Wire.{Wire}
use Rattle.tsb_field_log.specs.declared.inputs.Signal.{Signal}
use Rattle.tsb_field_log.specs.declared.inputs.InputEvent.{InputEvent}

-- how many inputs of this kind there are
abbrev pub most_inputs : InputKind → ℕ
most_inputs Vehicle = VEHICLE_DETECTORS
most_inputs Pedestrian = PEDESTRIAN_DETECTORS
most_inputs Preempt = PREEMPTS

-- how many of them a row in digits has
abbrev pub inputs_in_digits : InputKind → ℕ
inputs_in_digits Vehicle = 16
inputs_in_digits Pedestrian = 8
inputs_in_digits Preempt = 4

-- the kinds are one
abbrev pub is_same_kind : InputKind → InputKind → Bool
is_same_kind Vehicle Vehicle = true
is_same_kind Vehicle Pedestrian = false
is_same_kind Vehicle Preempt = false
is_same_kind Pedestrian Vehicle = false
is_same_kind Pedestrian Pedestrian = true
is_same_kind Pedestrian Preempt = false
is_same_kind Preempt Vehicle = false
is_same_kind Preempt Pedestrian = false
is_same_kind Preempt Preempt = true

-- what an event code of the Indiana enumerations says of an input; nothing where it is of none
abbrev pub signal_of : ℕ → Option Signal
signal_of code =
    if code == 82 then Some (record { kind = Vehicle; on = true })
    else if code == 81 then Some (record { kind = Vehicle; on = false })
    else if code == 90 then Some (record { kind = Pedestrian; on = true })
    else if code == 89 then Some (record { kind = Pedestrian; on = false })
    else if code == 102 then Some (record { kind = Preempt; on = true })
    else if code == 104 then Some (record { kind = Preempt; on = false })
    else None

-- the event is of this wire: of its kind, and on its channel
abbrev pub is_of : Wire → InputEvent → Bool
is_of wire event = is_same_kind wire.kind event.kind && wire.channel == event.channel

-- whether a wire is on at a moment, where it was so before these events: the last of its events up to then says so.
-- What is switched off at a moment is off from that moment.
abbrev pub on_at : Bool → Wire → ℕ → List InputEvent → Bool
on_at before wire moment [] = before
on_at before wire moment (e ∷ es) = on_at (if is_of wire e && nat_le e.nanos moment then e.on else before) wire moment es

-- one of these events switches the wire on, from one moment on and before another
abbrev pub switched_on : Wire → ℕ → ℕ → List InputEvent → Bool
switched_on wire from to [] = false
switched_on wire from to (e ∷ es) = (is_of wire e && e.on && nat_le from e.nanos && nat_lt e.nanos to) || switched_on wire from to es
