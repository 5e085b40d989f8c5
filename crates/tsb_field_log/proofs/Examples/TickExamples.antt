-- Which ticks a wire is on in, worked by hand from the rule. Tick 1 begins at 1,000,000,000, tick 2 a tenth of a second
-- later, and so on.
use Rattle.std.specs.Prelude.{◌≡◌, ℕ, Bool, true, false, List, [], ◌∷◌, map, codes, refl}
use Rattle.tsb_types.specs.Sets.{set_of_detectors, set_of_list, all_off, number_of_bits}
use Rattle.tsb_types.specs.declared.row.Row.{Row}
use Rattle.tsb_field_log.specs.declared.inputs.InputKind.TheVariants.{Vehicle}
use Rattle.tsb_field_log.specs.declared.inputs.Wire.{Wire}
use Rattle.tsb_field_log.specs.declared.inputs.InputEvent.{InputEvent}
use Rattle.tsb_field_log.specs.Ticks.{is_on_in, row_in}
use Rattle.tsb_field_log.specs.Changes.{changes}
use Rattle.tsb_log_text.specs.LogText.{row_line}

-- tick 1 begins here
abbrev pub start : ℕ
start = 1000000000

-- channel 21 leads to vehicle detector 3
abbrev pub wire : Wire
wire = record { kind = Vehicle; channel = 21; input = 3 }

-- so does channel 3
abbrev pub other : Wire
other = record { kind = Vehicle; channel = 3; input = 3 }

-- channel 21 goes on or off, so many nanoseconds after the start
abbrev pub goes : Bool → ℕ → InputEvent
goes on nanos = record { nanos = nanos; kind = Vehicle; channel = 21; on = on }

-- channel 3 goes on or off
abbrev pub other_goes : Bool → ℕ → InputEvent
other_goes on nanos = record { nanos = nanos; kind = Vehicle; channel = 3; on = on }

abbrev pub ticks : List ℕ
ticks = 1 ∷ 2 ∷ 3 ∷ 4 ∷ []

abbrev pub on_in : List InputEvent → List Bool
on_in events = map (λ t. is_on_in start wire t events) ticks

-- on within tick 2, off within tick 3: on in both
within : on_in (goes true 1150000000 ∷ goes false 1250000000 ∷ []) ≡ false ∷ true ∷ true ∷ false ∷ []
within = refl

-- off as tick 3 begins: it is off from then on
off_as_it_begins : on_in (goes true 1150000000 ∷ goes false 1200000000 ∷ []) ≡ false ∷ true ∷ false ∷ false ∷ []
off_as_it_begins = refl

-- off a nanosecond later: it was on as tick 3 began
off_behind : on_in (goes true 1150000000 ∷ goes false 1200000001 ∷ []) ≡ false ∷ true ∷ true ∷ false ∷ []
off_behind = refl

-- on and off at one moment
pulse : on_in (goes true 1150000000 ∷ goes false 1150000000 ∷ []) ≡ false ∷ true ∷ false ∷ false ∷ []
pulse = refl

-- the same as tick 3 begins
pulse_as_it_begins : on_in (goes true 1200000000 ∷ goes false 1200000000 ∷ []) ≡ false ∷ false ∷ true ∷ false ∷ []
pulse_as_it_begins = refl

-- on before tick 1, and off within it
before : on_in (goes true 900000000 ∷ goes false 1050000000 ∷ []) ≡ true ∷ false ∷ false ∷ false ∷ []
before = refl

-- a pulse before tick 1 is none of tick 1
pulse_before : on_in (goes true 900000000 ∷ goes false 950000000 ∷ []) ≡ false ∷ false ∷ false ∷ false ∷ []
pulse_before = refl

-- on, and never off
stays : on_in (goes true 1150000000 ∷ []) ≡ false ∷ true ∷ true ∷ true ∷ []
stays = refl

-- two channels lead to the detector: it is on until both are off
abbrev pub two : List InputEvent
two = goes true 1010000000 ∷ other_goes true 1110000000 ∷ goes false 1120000000 ∷ other_goes false 1210000000 ∷ []

abbrev pub detector_3 : Row
detector_3 = record { vehicles = set_of_detectors 4; pedestrians = set_of_list 0; preempts = set_of_list 0 }

either : map (λ t. row_in start (wire ∷ other ∷ []) two t) ticks ≡ detector_3 ∷ detector_3 ∷ detector_3 ∷ all_off ∷ []
unfolding row_in number_of_bits
either = refl

-- and rows are written where that changes
rows : changes (row_in start (wire ∷ other ∷ []) two) all_off 1 4 ≡ record { tick = 1; row = detector_3 } ∷ record { tick = 4; row = all_off } ∷ []
unfolding changes row_in number_of_bits
rows = refl

line : row_line (record { tick = 1234567; row = detector_3 }) ≡ codes "1234567 0010000000000000 00000000 0000"
unfolding row_line
line = refl
