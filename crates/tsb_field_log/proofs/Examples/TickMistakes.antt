-- One-line mistakes, each with an example that tells it from the definition.
use Rattle.std.specs.Fmt.{digits}
use Rattle.std.specs.Prelude.{◌≡◌, ℕ, zero, suc, ◌+◌, ◌*◌, ◌&&◌, ◌||◌, nat_lt, Bool, true, false, List, [], ◌∷◌, ◌++◌, drop, length, map, if◌then◌else◌, Ok, Err, refl}
use Rattle.tsb_types.specs.Sets.{all_off, has_detector, is_same_row, number_of_bits, set_of_detectors, set_of_list}
use Rattle.tsb_types.specs.declared.row.Row.{Row}
use Rattle.tsb_log_text.specs.Logs.{log_of, row_at, rows_from}
use Rattle.tsb_log_text.specs.Rows.{inputs_of, row_of}
use Rattle.tsb_log_text.specs.declared.error.LogError.TheVariants.{Malformed}
use Rattle.tsb_log_text.specs.declared.log.LogRow.{LogRow}
use Rattle.tsb_field_log.specs.declared.inputs.InputEvent.{InputEvent}
use Rattle.tsb_field_log.specs.Changes.{change, changes}
use Rattle.tsb_field_log.specs.Inputs.{is_of, on_at, switched_on}
use Rattle.tsb_log_text.specs.LogText.{log_text, row_line}
use Rattle.tsb_log_text.specs.ListText.{lists_line, lists_text, text_in}
use Rattle.tsb_log_text.specs.RowLists.{lists_of, row_of_lists}
use Rattle.tsb_log_text.specs.declared.form.RowForm.TheVariants.{Digits, Lists}
use Rattle.tsb_types.specs.Lists.{run_from}
use Rattle.tsb_field_log.specs.Ticks.{begin_of, is_on_in, row_in}
use Rattle.tsb_field_log.proofs.Examples.TickExamples.{detector_3, goes, other, start, ticks, two, wire}

-- ## A wire is on in a tick where it is on as the tick begins: a pulse is lost

abbrev pub on_as_it_begins : List InputEvent → List Bool
on_as_it_begins events = map (λ t. on_at false wire (begin_of start t) events) ticks

pulse_lost : on_as_it_begins (goes true 1150000000 ∷ goes false 1150000000 ∷ []) ≡ false ∷ false ∷ false ∷ false ∷ []
pulse_lost = refl

-- ## It is on in a tick where it is on as the tick ends: what goes off within is lost

abbrev pub on_as_it_ends : List InputEvent → List Bool
on_as_it_ends events = map (λ t. on_at false wire (begin_of start (t + 1)) events) ticks

end_lost : on_as_it_ends (goes true 1150000000 ∷ goes false 1250000000 ∷ []) ≡ false ∷ true ∷ false ∷ false ∷ []
end_lost = refl

-- ## What is switched off at a moment is on up to and with that moment

abbrev pub on_just_before : Bool → ℕ → List InputEvent → Bool
on_just_before before moment [] = before
on_just_before before moment (e ∷ es) = on_just_before (if is_of wire e && nat_lt e.nanos moment then e.on else before) moment es

abbrev pub on_from_before : List InputEvent → List Bool
on_from_before events = map (λ t. on_just_before false (begin_of start t) events || switched_on wire (begin_of start t) (begin_of start (t + 1)) events) ticks

on_too_long : on_from_before (goes true 1150000000 ∷ goes false 1200000000 ∷ []) ≡ false ∷ true ∷ true ∷ false ∷ []
on_too_long = refl

-- ## A row is written only as some input is on: as all go off, the row before stays in force

abbrev pub changes_of_on : (ℕ → Row) → Row → ℕ → ℕ → List LogRow
changes_of_on inputs before tick zero = []
changes_of_on inputs before tick (suc count) =
    (if is_same_row (inputs tick) all_off then [] else change tick before (inputs tick))
    ++ changes_of_on inputs (inputs tick) (suc tick) count

-- the inputs of ticks 1 to 4
abbrev pub inputs : ℕ → Row
inputs tick = row_in start (wire ∷ other ∷ []) two tick

is_off_at_4 : row_at (changes inputs all_off 1 4) 4 ≡ all_off
unfolding changes row_in number_of_bits
is_off_at_4 = refl

would_be_on_at_4 : row_at (changes_of_on inputs all_off 1 4) 4 ≡ detector_3
unfolding row_in number_of_bits
would_be_on_at_4 = refl

-- ## An input is on where all wires that lead to it are

abbrev pub all_on : List InputEvent → ℕ → Bool
all_on events tick = is_on_in start wire tick events && is_on_in start other tick events

-- in tick 1 the first alone is on
has_3 : has_detector (inputs 1).vehicles 3 ≡ true
unfolding row_in number_of_bits
has_3 = refl

would_not_have_3 : all_on two 1 ≡ false
would_not_have_3 = refl

-- ## The tick of a row has six digits

abbrev pub line_in_six : LogRow → List ℕ
line_in_six r = drop 1 (row_line r)

abbrev pub rows : List LogRow
rows = changes inputs all_off 1 4

abbrev pub text_in_six : List LogRow → List ℕ
text_in_six [] = []
text_in_six (r ∷ rs) = line_in_six r ++ 10 ∷ text_in_six rs

is_a_log : log_of (log_text rows) ≡ Ok rows
unfolding changes row_in number_of_bits log_text row_line rows_from row_of inputs_of row_of_lists lists_of
is_a_log = refl

is_long : length (log_text rows) ≡ 39 * length rows
unfolding changes row_in number_of_bits log_text row_line
is_long = refl

would_be_malformed : log_of (text_in_six rows) ≡ Err (Malformed 1)
unfolding changes row_in number_of_bits row_line rows_from row_of inputs_of row_of_lists lists_of
would_be_malformed = refl

-- ## Rows are by digits though a wire leads to detector 17

abbrev pub detector_17 : Row
detector_17 = record { vehicles = set_of_detectors 65536; pedestrians = set_of_list 0; preempts = set_of_list 0 }

abbrev pub one_row : Row → List LogRow
one_row inputs = record { tick = 1; row = inputs } ∷ []

has_17 : log_of (text_in Lists (one_row detector_17)) ≡ Ok (one_row detector_17)
unfolding digits number_of_bits run_from lists_text lists_line rows_from row_of_lists lists_of
has_17 = refl

would_lose_17 : log_of (text_in Digits (one_row detector_17)) ≡ Ok (one_row all_off)
unfolding number_of_bits log_text row_line rows_from row_of inputs_of row_of_lists lists_of
would_lose_17 = refl
