-- Mistakes in how lists of phases are spelled, each with an example that tells it from the definition.
use Rattle.std.specs.Prelude.{◌≡◌, ℕ, ◌==◌, Bool, true, false, refl}
use Rattle.tsb_types.specs.Sets.{names, number_of_bits, list_of}

-- the test that phase 2 alone passes
abbrev pub is_2 : ℕ → Bool
is_2 p = p == 2

-- ## The bits of a list count from phase 0: the list of phase 2 names phase 3

abbrev pub list_from_0 : (ℕ → Bool) → ℕ
list_from_0 test = number_of_bits 16 test

names_2 : names (list_of 16 is_2) 2 ≡ true
unfolding number_of_bits
names_2 = refl

names_not_2 : names (list_from_0 is_2) 2 ≡ false
unfolding number_of_bits
names_not_2 = refl

-- ## A word of 17 bits is a list too: it names the same of phases 1 to 16 as the empty list

is_its_list : list_of 16 (names 2) ≡ 2
unfolding number_of_bits
is_its_list = refl

would_be_empty : list_of 16 (names 65536) ≡ 0
unfolding number_of_bits
would_be_empty = refl
