-- Inputs that a bench has, the wires that lead to them, and the form of a log by these.
use Rattle.std.specs.List.{list_any}
use Rattle.std.specs.Prelude.{ℕ, ◌==◌, ◌&&◌, nat_le, nat_lt, Bool, List, if◌then◌else◌}
use Rattle.tsb_types.specs.Sets.{has_detector, has_number}
use Rattle.tsb_types.specs.declared.row.Row.{Row}
use Rattle.tsb_log_text.specs.declared.form.RowForm.{RowForm}
use Rattle.tsb_log_text.specs.declared.form.RowForm.TheVariants.{Digits, Lists}
use Rattle.tsb_field_log.specs.Inputs.{inputs_in_digits, is_same_kind, most_inputs}
use Rattle.tsb_field_log.specs.declared.inputs.InputKind.{InputKind}
use Rattle.tsb_field_log.specs.declared.inputs.InputKind.TheVariants.{Vehicle, Pedestrian, Preempt}
use Rattle.tsb_field_log.specs.declared.inputs.Wire.{Wire}

-- a bench has this input
abbrev pub is_input : InputKind → ℕ → Bool
is_input kind number = nat_le 1 number && nat_le number (most_inputs kind)

-- the row has this input on
abbrev pub has_input : Row → InputKind → ℕ → Bool
has_input row Vehicle number = has_detector row.vehicles number
has_input row Pedestrian number = has_number row.pedestrians number
has_input row Preempt number = has_number row.preempts number

-- the wire leads to this input
abbrev pub leads_to : Wire → InputKind → ℕ → Bool
leads_to wire kind number = is_same_kind wire.kind kind && wire.input == number

-- the wire leads to an input for which rows in digits have none
abbrev pub leads_beyond : Wire → Bool
leads_beyond wire = nat_lt (inputs_in_digits wire.kind) wire.input

-- the form of a log by these wires: lists, where one leads there
abbrev pub form_of_wires : List Wire → RowForm
form_of_wires wires = if list_any leads_beyond wires then Lists else Digits
