-- A number of JSON, and what a value says where it was meant in another form: in seconds with tenths, or as phases.
use Rattle.std.specs.Prelude.{ℕ, ◌+◌, ◌*◌, ◌-◌, ◌==◌, ◌&&◌, ◌||◌, nat_le, if◌then◌else◌, Bool, false, List, [], ◌∷◌, length, take, drop, slice_index, Option, Some, None, option_and_then}
use Rattle.json.specs.Find.{as_number, as_str}
use Rattle.json.specs.Json.{Json}
use Rattle.tsb_lines.specs.Words.{number_of}
use Rattle.tsb_plan_notes.specs.declared.units.Unit.{Unit}
use Rattle.tsb_plan_notes.specs.declared.units.Unit.TheVariants.{Phases, Tenths}
use Rattle.tsb_plan_notes.specs.PhaseLists.{phases_of}

-- a value that is a whole number of 32 bits: digits alone
abbrev pub whole_of : Json → Option ℕ
whole_of d = option_and_then number_of (as_number d)

-- a number begins with a minus
abbrev pub is_negative : List ℕ → Bool
is_negative [] = false
is_negative (byte ∷ bytes) = byte == 45

-- a byte of it is the letter before an exponent
abbrev pub is_exponent : ℕ → Bool
is_exponent byte = byte == 101 || byte == 69

-- and a point
abbrev pub is_point : ℕ → Bool
is_point byte = byte == 46

-- whole seconds and tenths of a second
abbrev pub joined : Option ℕ → Option ℕ → Option ℕ
joined (Some whole) (Some tenth) = Some (whole * 10 + tenth)
joined whole tenth = None

-- the tenths of a second that a number with one decimal says
unfoldable pub tenths_of : List ℕ → Option ℕ
tenths_of s =
    if nat_le 3 (length s) && slice_index s (length s - 2) == 46
    then joined (number_of (take (length s - 2) s)) (number_of (drop (length s - 1) s)) else None

-- what a value may have been meant as, in the unit of its object: 32 for 3.2, where that is tenths of a second, and 72 for
-- "4,7", where that is a list of phases
abbrev pub meant : Unit → Json → Option ℕ
meant Tenths d = option_and_then tenths_of (as_number d)
meant Phases d = option_and_then phases_of (as_str d)
meant unit d = None

-- whether a number is at most so many
abbrev pub is_within : ℕ → Option ℕ → Bool
is_within most None = false
is_within most (Some n) = nat_le n most

-- whether a text is that of an index of at most so many: in digits, without a leading zero
unfoldable pub is_index : ℕ → List ℕ → Bool
is_index most text = nat_le 49 (slice_index text 0) && is_within most (number_of text)
