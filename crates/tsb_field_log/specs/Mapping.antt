-- The wires of a bench: those that are mapped, and from each other channel to the input of its own number.
use Rattle.std.specs.Prelude.{ℕ, zero, suc, ◌==◌, ◌&&◌, Bool, List, [], ◌∷◌, ◌++◌, if◌then◌else◌}
use Rattle.std.specs.List.{list_any}
use Rattle.tsb_field_log.specs.Inputs.{is_same_kind, inputs_in_digits}
use Rattle.tsb_field_log.specs.declared.inputs.InputKind.{InputKind}
use Rattle.tsb_field_log.specs.declared.inputs.InputKind.TheVariants.{Vehicle, Pedestrian, Preempt}
use Rattle.tsb_field_log.specs.declared.inputs.Wire.{Wire}

-- the wire is of this kind, and from this channel
abbrev pub leads_from : InputKind → ℕ → Wire → Bool
leads_from kind channel wire = is_same_kind wire.kind kind && wire.channel == channel

-- one of these wires is of this kind, and from this channel
abbrev pub is_wired : List Wire → InputKind → ℕ → Bool
is_wired wires kind channel = list_any (leads_from kind channel) wires

-- the wire from a channel to the input of its own number; none where the channel is mapped
abbrev pub own_wire : List Wire → InputKind → ℕ → List Wire
own_wire mapped kind number =
    if is_wired mapped kind number then [] else record { kind = kind; channel = number; input = number } ∷ []

-- those from so many channels, from this one on
unfoldable pub own_wires : List Wire → InputKind → ℕ → ℕ → List Wire
own_wires mapped kind number zero = []
own_wires mapped kind number (suc count) = own_wire mapped kind number ++ own_wires mapped kind (suc number) count

-- the wires that are mapped, and then for each kind those from its channels that are not, up to as many as a row in digits has
abbrev pub wires_of : List Wire → List Wire
wires_of mapped =
    mapped ++ (own_wires mapped Vehicle 1 (inputs_in_digits Vehicle)
    ++ (own_wires mapped Pedestrian 1 (inputs_in_digits Pedestrian) ++ own_wires mapped Preempt 1 (inputs_in_digits Preempt)))
