-- Which rows become known by each event, worked by hand, and a mistake that the law `rows_add_up` refuses.
use Rattle.std.specs.Prelude.{◌≡◌, true, false, List, [], ◌∷◌, ◌++◌, map, take, refl}
use Rattle.std.proofs.Common.{arith}
use Rattle.tsb_types.specs.Sets.{set_of_detectors, set_of_list, all_off, number_of_bits}
use Rattle.tsb_types.specs.declared.row.Row.{Row}
use Rattle.tsb_log_text.specs.declared.log.LogRow.{LogRow}
use Rattle.tsb_field_log.specs.declared.inputs.InputKind.TheVariants.{Vehicle}
use Rattle.tsb_field_log.specs.declared.inputs.Wire.{Wire}
use Rattle.tsb_field_log.specs.declared.inputs.InputEvent.{InputEvent}
use Rattle.tsb_field_log.specs.Ticks.{row_in}
use Rattle.tsb_field_log.specs.Changes.{changes}
use Rattle.tsb_field_log.specs.Streets.{rows_until}
use Rattle.tsb_field_log.specs.Pushed.{AreInOrder, AreInOrderBehind, last_tick, rows_before}
use Rattle.tsb_field_log.proofs.Examples.TickExamples.{start, wire, other, goes, other_goes, two, detector_3}

-- channels 21 and 3 lead to vehicle detector 3
abbrev pub both : List Wire
both = wire ∷ other ∷ []

-- ## A run that meets the premises: events in ticks 1, 2, 2 and 3

in_order : AreInOrder start two
in_order = (omega arith, (omega arith, (omega arith, (omega arith, omega arith))))

-- so do those after the first
more_in_order : AreInOrderBehind start (last_tick start (take 1 two)) (goes true 1110000000 ∷ other_goes false 1310000000 ∷ [])
more_in_order = (omega arith, (omega arith, omega arith))

last : map (λ n. last_tick start (take n two)) (0 ∷ 1 ∷ 2 ∷ 3 ∷ 4 ∷ []) ≡ 0 ∷ 1 ∷ 2 ∷ 2 ∷ 3 ∷ []
last = refl

-- the row of tick 1 is known by the first event of tick 2, and no row stands where nothing changes
abbrev pub known : List (List LogRow)
known = map (λ n. rows_before start both (take n two)) (0 ∷ 1 ∷ 2 ∷ 3 ∷ 4 ∷ [])

rows_known : known ≡ [] ∷ [] ∷ (record { tick = 1; row = detector_3 } ∷ []) ∷ (record { tick = 1; row = detector_3 } ∷ []) ∷ (record { tick = 1; row = detector_3 } ∷ []) ∷ []
unfolding changes row_in number_of_bits
rows_known = refl

-- what each push gives is what is new in that
given : rows_until start both [] 0 1 ∷ rows_until start both (take 1 two) 1 2 ∷ rows_until start both (take 2 two) 2 2 ∷ rows_until start both (take 3 two) 2 3 ∷ rows_until start both two 3 9 ∷ []
    ≡ [] ∷ (record { tick = 1; row = detector_3 } ∷ []) ∷ [] ∷ [] ∷ (record { tick = 4; row = all_off } ∷ []) ∷ []
unfolding changes row_in number_of_bits
given = refl

-- ## A mistake: the row of a tick is known as soon as an event falls into it. One more event of that tick makes it another
-- row, so what was given is not how the log begins.

-- channel 4 leads to vehicle detector 4
abbrev pub fourth : Wire
fourth = record { kind = Vehicle; channel = 4; input = 4 }

abbrev pub known_too_soon : List InputEvent → List LogRow
known_too_soon events = changes (row_in start (wire ∷ fourth ∷ []) events) all_off 1 (last_tick start events)

-- both go on in tick 2
abbrev pub first_goes : List InputEvent
first_goes = goes true 1110000000 ∷ []

abbrev pub then_fourth : List InputEvent
then_fourth = first_goes ++ record { nanos = 1150000000; kind = Vehicle; channel = 4; on = true } ∷ []

too_soon : known_too_soon first_goes ≡ record { tick = 2; row = detector_3 } ∷ []
unfolding changes row_in number_of_bits
too_soon = refl

abbrev pub detectors_3_and_4 : Row
detectors_3_and_4 = record { vehicles = set_of_detectors 12; pedestrians = set_of_list 0; preempts = set_of_list 0 }

another : known_too_soon then_fourth ≡ record { tick = 2; row = detectors_3_and_4 } ∷ []
unfolding changes row_in number_of_bits
another = refl

-- none of it is known by the definition
not_yet : rows_before start (wire ∷ fourth ∷ []) then_fourth ≡ []
unfolding changes row_in number_of_bits
not_yet = refl
