-- The inputs that a row has, one by one.
use Rattle.std.specs.Prelude.{Bool}
use Rattle.tsb_types.specs.Sets.{has_detector, has_number}
use Rattle.tsb_types.specs.declared.row.Row.{Row}
use Rattle.tsb_log_text.specs.declared.row_input.RowInput.{RowInput}
use Rattle.tsb_log_text.specs.declared.row_input.RowInput.TheVariants.{Vehicle, Pedestrian, Preempt}

-- whether an input is on in a row
abbrev pub value_of : RowInput → Row → Bool
value_of (Vehicle d) row = has_detector row.vehicles d
value_of (Pedestrian d) row = has_number row.pedestrians d
value_of (Preempt n) row = has_number row.preempts n
