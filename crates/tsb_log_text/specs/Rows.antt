-- A row of a log: the line that spells it.
use Rattle.std.specs.Prelude.{ℕ, ◌+◌, ◌*◌, ◌==◌, ◌&&◌, nat_le, List, [], ◌∷◌, if◌then◌else◌, length, take, drop, slice_index, Bool, Option, Some, None}
use Rattle.tsb_lines.specs.Words.{number_of}
use Rattle.tsb_types.specs.declared.limits.TheConstants.{TICKS}
use Rattle.tsb_types.specs.Sets.{set_of_detectors, set_of_list}
use Rattle.tsb_types.specs.declared.row.Row.{Row}
use Rattle.tsb_log_text.specs.declared.log.LogRow.{LogRow}

-- a digit 0 or 1 before others, of which this is the number
abbrev pub onto_digits : ℕ → Option ℕ → Option ℕ
onto_digits d None = None
onto_digits d (Some rest) = if d == 48 then Some (2 * rest) else if d == 49 then Some (1 + 2 * rest) else None

-- the list that digits 0 and 1 spell, the first digit for number 1
abbrev pub list_in_digits : List ℕ → Option ℕ
list_in_digits [] = Some 0
list_in_digits (d ∷ ds) = onto_digits d (list_in_digits ds)

-- a bench takes so many ticks at most, and no row is of tick 0, which is power-up
abbrev pub in_ticks : Option ℕ → Option ℕ
in_ticks None = None
in_ticks (Some t) = if nat_le 1 t && nat_le t TICKS then Some t else None

-- the tick that digits spell: 1 to the last of a bench
abbrev pub tick_of : List ℕ → Option ℕ
tick_of digits = in_ticks (number_of digits)

-- so many bytes from this place on
abbrev pub field : ℕ → ℕ → List ℕ → List ℕ
field place count line = take count (drop place line)

-- a space, at this place
abbrev pub has_space : ℕ → List ℕ → Bool
has_space place line = slice_index line place == 32

-- inputs where all three lists are spelled, otherwise none
abbrev pub inputs_with : Option ℕ → Option ℕ → Option ℕ → Option Row
inputs_with (Some v) (Some p) (Some e) = Some (record { vehicles = set_of_detectors v; pedestrians = set_of_list p; preempts = set_of_list e })
inputs_with v p e = None

-- the inputs of a row: 16 digits for vehicle detectors, 8 for pedestrian detectors and 4 for preempt inputs, with a
-- space between them
unfoldable pub inputs_of : List ℕ → Option Row
inputs_of digits =
    if length digits == 30 && has_space 16 digits && has_space 25 digits
    then inputs_with (list_in_digits (field 0 16 digits)) (list_in_digits (field 17 8 digits)) (list_in_digits (field 26 4 digits))
    else None

-- a row where the tick and the inputs are spelled, otherwise none
abbrev pub row_with : Option ℕ → Option Row → Option LogRow
row_with (Some t) (Some r) = Some (record { tick = t; row = r })
row_with t r = None

-- a row: 7 digits for its tick, a space and its inputs
unfoldable pub row_of : List ℕ → Option LogRow
row_of line =
    if length line == 38 && has_space 7 line
    then row_with (tick_of (field 0 7 line)) (inputs_of (field 8 30 line))
    else None
