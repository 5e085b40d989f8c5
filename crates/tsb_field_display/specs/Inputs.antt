-- The events of inputs, of the rows of a log. Their codes are those of the Indiana Traffic Signal Hi Resolution Data
-- Logger Enumerations, and their parameters are the numbers of the inputs.
use Rattle.std.specs.Prelude.{ℕ, List, [], ◌∷◌, ◌++◌}
use Rattle.tsb_types.specs.Sets.{all_off, has_detector, has_number}
use Rattle.tsb_types.specs.declared.row.Row.{Row}
use Rattle.tsb_log_text.specs.declared.log.LogRow.{LogRow}
use Rattle.tsb_types.specs.declared.event.Event.{Event}
use Rattle.tsb_types.specs.Events.{begins, ends, told, told_detectors}

-- of vehicle detectors: 81 one goes off, 82 one goes on
abbrev pub vehicle_input_events : Row → ℕ → Row → List Event
vehicle_input_events before tick now =
    told_detectors tick 81 (ends (has_detector before.vehicles) (has_detector now.vehicles))
    ++ told_detectors tick 82 (begins (has_detector before.vehicles) (has_detector now.vehicles))

-- of pedestrian detectors: 89 one goes off, 90 one goes on
abbrev pub pedestrian_input_events : Row → ℕ → Row → List Event
pedestrian_input_events before tick now =
    told tick 89 (ends (has_number before.pedestrians) (has_number now.pedestrians))
    ++ told tick 90 (begins (has_number before.pedestrians) (has_number now.pedestrians))

-- of preempt inputs: 102 one goes on, 104 one goes off
abbrev pub preempt_input_events : Row → ℕ → Row → List Event
preempt_input_events before tick now =
    told tick 102 (begins (has_number before.preempts) (has_number now.preempts))
    ++ told tick 104 (ends (has_number before.preempts) (has_number now.preempts))

-- the events of a row after another: by their codes, and those of one code by their parameters
unfoldable pub events_of_row : Row → LogRow → List Event
events_of_row before now =
    vehicle_input_events before now.tick now.row ++ pedestrian_input_events before now.tick now.row
    ++ preempt_input_events before now.tick now.row

-- those of rows, one after the other, of which the first comes after this
abbrev pub events_behind : Row → List LogRow → List Event
events_behind before [] = []
events_behind before (row ∷ rows) = events_of_row before row ++ events_behind row.row rows

-- those of rows: before the first, all inputs are off
abbrev pub events_of_rows : List LogRow → List Event
events_of_rows rows = events_behind all_off rows
