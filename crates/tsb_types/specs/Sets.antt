-- Sets of phases. A list of phases is a number, the sum of 2 ^ (p - 1) over its phases p (profile).
use Rattle.std.specs.Prelude.{ℕ, zero, suc, ◌+◌, ◌*◌, ◌%◌, ◌==◌, nat_le, Bool, false, ◌&&◌, if◌then◌else◌, List, slice_index}
use Rattle.std.specs.Int.{bit_at}
use Rattle.tsb_types.specs.declared.detector_set.DetectorSet.{DetectorSet}
use Rattle.tsb_types.specs.declared.number_set.NumberSet.{NumberSet}
use Rattle.tsb_types.specs.declared.row.Row.{Row}
use Rattle.tsb_types.specs.declared.phase_set.PhaseSet.{PhaseSet}

-- the list names phase p; none names phase 0
abbrev pub names : ℕ → ℕ → Bool
names list zero = false
names list (suc k) = bit_at list k == 1

-- the set has the number n
abbrev pub has_number : NumberSet → ℕ → Bool
has_number s n = names s.word n

-- the set of the numbers that a list names
abbrev pub set_of_list : ℕ → NumberSet
set_of_list list = record { word = list }

-- two sets have the same numbers
abbrev pub is_same_set : NumberSet → NumberSet → Bool
is_same_set one other = one.word == other.word

-- what grows less with each number that is taken out, by which loops over a set end
abbrev pub size_of_numbers : NumberSet → ℕ
size_of_numbers s = s.word

-- the set has vehicle detector d
abbrev pub has_detector : DetectorSet → ℕ → Bool
has_detector s d = names s.word d

-- the set of the vehicle detectors that a list names
abbrev pub set_of_detectors : ℕ → DetectorSet
set_of_detectors list = record { word = list }

-- two sets have the same detectors
abbrev pub is_same_detectors : DetectorSet → DetectorSet → Bool
is_same_detectors one other = one.word == other.word

-- what grows less with each detector that is taken out, by which loops over a set end
abbrev pub size_of_detectors : DetectorSet → ℕ
size_of_detectors s = s.word

-- all inputs off
abbrev pub all_off : Row
all_off = record { vehicles = set_of_detectors 0; pedestrians = set_of_list 0; preempts = set_of_list 0 }

-- two rows have the same inputs on
abbrev pub is_same_row : Row → Row → Bool
is_same_row one other =
    is_same_detectors one.vehicles other.vehicles && is_same_set one.pedestrians other.pedestrians
    && is_same_set one.preempts other.preempts

-- the set has phase p
abbrev pub has : PhaseSet → ℕ → Bool
has s p = has_number s.numbers p

-- what grows less with each phase that is taken out, by which loops over a set end
abbrev pub size : PhaseSet → ℕ
size s = size_of_numbers s.numbers

-- the number whose bits are f 0, f 1 .. f (n - 1)
unfoldable pub number_of_bits : ℕ → (ℕ → Bool) → ℕ
number_of_bits zero f = 0
number_of_bits (suc n) f = (if f 0 then 1 else 0) + 2 * number_of_bits n (λ k. f (suc k))

-- the list of those of the first n phases that pass a test
abbrev pub list_of : ℕ → (ℕ → Bool) → ℕ
list_of n test = number_of_bits n (λ k. test (suc k))

-- the list that cell k of a row holds, of phases or of detectors
abbrev pub list_in : List ℕ → ℕ → ℕ
list_in row k = slice_index row k % 65536

-- the list that cells k and k + 1 of a row hold together, the lower 32 bits first: of vehicle detectors
abbrev pub wide_list_in : List ℕ → ℕ → ℕ
wide_list_in row k = slice_index row k % 4294967296 + 4294967296 * (slice_index row (k + 1) % 4294967296)

-- p is the number of a phase, for which rows of cells have room
abbrev pub is_phase : ℕ → Bool
is_phase p = nat_le 1 p && nat_le p 16
