-- Ticks of a street, and the inputs that are on in each. A tick is a tenth of a second. Tick 1 begins at the moment
-- that a log is made from; events before it say how it begins.
use Rattle.std.specs.Prelude.{ℕ, ◌+◌, ◌-◌, ◌*◌, ◌==◌, ◌&&◌, ◌||◌, Bool, false, List, [], ◌∷◌}
use Rattle.tsb_types.specs.Sets.{list_of, set_of_detectors, set_of_list}
use Rattle.tsb_types.specs.declared.row.Row.{Row}
use Rattle.tsb_field_log.specs.Inputs.{is_same_kind, on_at, switched_on}
use Rattle.tsb_field_log.specs.declared.inputs.InputKind.{InputKind}
use Rattle.tsb_field_log.specs.declared.inputs.InputKind.TheVariants.{Vehicle, Pedestrian, Preempt}
use Rattle.tsb_field_log.specs.declared.inputs.Wire.{Wire}
use Rattle.tsb_field_log.specs.declared.inputs.InputEvent.{InputEvent}

-- the moment at which a tick begins, in nanoseconds; all that is before tick 1 ends as that one begins
abbrev pub begin_of : ℕ → ℕ → ℕ
begin_of from tick = from + (tick - 1) * 100000000

-- a wire is on in a tick: as it begins, or it is switched on in it, though off again at the same moment. It need not be
-- looked at between: where it is on at some later moment of the tick, and not as it begins, it was switched on.
abbrev pub is_on_in : ℕ → Wire → ℕ → List InputEvent → Bool
is_on_in from wire tick events =
    on_at false wire (begin_of from tick) events || switched_on wire (begin_of from tick) (begin_of from (tick + 1)) events

-- an input is on in a tick: one of the wires that lead to it is
abbrev pub input_on : ℕ → List Wire → List InputEvent → ℕ → InputKind → ℕ → Bool
input_on from [] events tick kind number = false
input_on from (wire ∷ wires) events tick kind number =
    (is_same_kind wire.kind kind && wire.input == number && is_on_in from wire tick events) || input_on from wires events tick kind number

-- the inputs that are on in a tick
unfoldable pub row_in : ℕ → List Wire → List InputEvent → ℕ → Row
row_in from wires events tick = record {
  vehicles = set_of_detectors (list_of 64 (input_on from wires events tick Vehicle));
  pedestrians = set_of_list (list_of 16 (input_on from wires events tick Pedestrian));
  preempts = set_of_list (list_of 8 (input_on from wires events tick Preempt));
}
