-- What holds of lists of phases, in words that do not retrace how they are made. Each law here is the contract of a
-- function in src/laws.rt.
use Rattle.std.specs.Prelude.{◌≡◌, ℕ, ◌^◌, ◌<◌, ◌≤◌, Bool}
use Rattle.tsb_types.specs.Sets.{names, list_of}

-- a list names those of its phases that pass a test where it is their list
abbrev pub NameWhatPasses : Type 0
NameWhatPasses = (test : ℕ → Bool) (p : ℕ) → 1 ≤ p → p ≤ 16 → names (list_of 16 test) p ≡ test p

-- such a list is one that an object takes
abbrev pub AreLists : Type 0
AreLists = (test : ℕ → Bool) → list_of 16 test < 2 ^ 16

-- the list of the phases that a list names is that list
abbrev pub TellTheirPhases : Type 0
TellTheirPhases = (list : ℕ) → list < 2 ^ 16 → list_of 16 (names list) ≡ list

-- two lists that name the same phases are one
abbrev pub AreOneIfTheSame : Type 0
AreOneIfTheSame = (list other : ℕ) → list < 2 ^ 16 → other < 2 ^ 16 →
    ((p : ℕ) → 1 ≤ p → p ≤ 16 → names list p ≡ names other p) → list ≡ other
