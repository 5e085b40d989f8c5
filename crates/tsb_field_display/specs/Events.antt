-- The events that come of a change of what is shown, by the Indiana enumerations: their codes and parameters.
use Rattle.std.specs.Prelude.{ℕ, Bool, not, ◌&&◌, if◌then◌else◌, List, [], ◌∷◌, ◌++◌, Option, Some, None}
use Rattle.tsb_types.specs.Lists.{run_from, is, some_passes}
use Rattle.tsb_types.specs.Sets.{has_number}
use Rattle.tsb_field_display.specs.declared.shown.Signals.{Signals}
use Rattle.tsb_field_display.specs.declared.shown.Shown.{Shown}
use Rattle.tsb_types.specs.Events.{event, told, begins, ends, either}
use Rattle.tsb_types.specs.declared.event.Event.{Event}
use Rattle.tsb_field_display.specs.Shows.{nothing_lit}

-- ## What heads show

-- the vehicle head of the phase is green
abbrev pub is_green : Signals → ℕ → Bool
is_green s p = has_number s.vehicles.greens p

-- it is yellow
abbrev pub is_yellow : Signals → ℕ → Bool
is_yellow s p = has_number s.vehicles.yellows p

-- the pedestrian head of the phase shows walk
abbrev pub is_walk : Signals → ℕ → Bool
is_walk s p = has_number s.pedestrians.walks p

-- it shows clearance
abbrev pub is_clearance : Signals → ℕ → Bool
is_clearance s p = has_number s.pedestrians.clearances p

-- the head of the overlap is green
abbrev pub is_overlap_green : Signals → ℕ → Bool
is_overlap_green s o = has_number s.overlaps.greens o

-- it is yellow
abbrev pub is_overlap_yellow : Signals → ℕ → Bool
is_overlap_yellow s o = has_number s.overlaps.yellows o

-- it flashes yellow, as an arrow
abbrev pub is_overlap_arrow : Signals → ℕ → Bool
is_overlap_arrow s o = has_number s.overlaps.arrows o

-- it is green, yellow, or flashes yellow
abbrev pub is_overlap_lit : Signals → ℕ → Bool
is_overlap_lit s = either (either (is_overlap_green s) (is_overlap_yellow s)) (is_overlap_arrow s)

-- some vehicle head flashes
abbrev pub is_in_flash : Signals → Bool
is_in_flash s = some_passes (has_number s.vehicles.flashing) (run_from 1 16)

-- ## Events

-- of vehicle heads: 1 green begins, 7 green ends, 8 yellow begins, 9 yellow ends
abbrev pub vehicle_events : Signals → ℕ → Signals → List Event
vehicle_events before tick now =
    told tick 1 (begins (is_green before) (is_green now)) ++ told tick 7 (ends (is_green before) (is_green now))
    ++ told tick 8 (begins (is_yellow before) (is_yellow now)) ++ told tick 9 (ends (is_yellow before) (is_yellow now))

-- of pedestrian heads: 21 walk begins, 22 clearance begins, 23 neither is any more
abbrev pub pedestrian_events : Signals → ℕ → Signals → List Event
pedestrian_events before tick now =
    told tick 21 (begins (is_walk before) (is_walk now)) ++ told tick 22 (begins (is_clearance before) (is_clearance now))
    ++ told tick 23 (ends (either (is_walk before) (is_clearance before)) (either (is_walk now) (is_clearance now)))

-- of arrows: 32 flashing yellow begins, 33 it ends
abbrev pub arrow_events : Signals → ℕ → Signals → List Event
arrow_events before tick now =
    told tick 32 (begins (is_overlap_arrow before) (is_overlap_arrow now))
    ++ told tick 33 (ends (is_overlap_arrow before) (is_overlap_arrow now))

-- of overlaps: 61 green begins, 63 yellow begins, 64 it is neither any more, nor flashes yellow
abbrev pub overlap_events : Signals → ℕ → Signals → List Event
overlap_events before tick now =
    told tick 61 (begins (is_overlap_green before) (is_overlap_green now))
    ++ told tick 63 (begins (is_overlap_yellow before) (is_overlap_yellow now))
    ++ told tick 64 (ends (is_overlap_lit before) (is_overlap_lit now))

-- 105: this preempt enters service
abbrev pub preempt_events : Option ℕ → ℕ → Option ℕ → List Event
preempt_events before tick None = []
preempt_events before tick (Some n) = if is n before then [] else event tick 105 n ∷ []

-- 173: a flash begins, told as 6, or ends, told as 2
abbrev pub flash_events : Bool → ℕ → Bool → List Event
flash_events before tick now =
    if now && not before then event tick 173 6 ∷ [] else (if before && not now then event tick 173 2 ∷ [] else [])

-- the events of a change: by their codes, and those of one code by their parameters
unfoldable pub events_of : Signals → Shown → List Event
events_of before now =
    vehicle_events before now.tick now.signals ++ pedestrian_events before now.tick now.signals
    ++ arrow_events before now.tick now.signals ++ overlap_events before now.tick now.signals
    ++ preempt_events before.preempt now.tick now.signals.preempt
    ++ flash_events (is_in_flash before) now.tick (is_in_flash now.signals)

-- those of lines, one after the other, of which the first comes after this
abbrev pub events_after : Signals → List Shown → List Event
events_after before [] = []
events_after before (line ∷ lines) = events_of before line ++ events_after line.signals lines

-- those of lines: before the first, nothing is lit
abbrev pub events_of_lines : List Shown → List Event
events_of_lines lines = events_after nothing_lit lines
