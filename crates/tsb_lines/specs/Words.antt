-- Words of a line, and the numbers that they spell.
use Rattle.std.specs.Prelude.{ℕ, ◌+◌, ◌-◌, ◌*◌, ◌==◌, nat_le, nat_lt, List, [], ◌∷◌, if◌then◌else◌, length, Option, Some, None, ◌&&◌}

-- b before a line whose words are these: it begins a word, or goes onto the first
abbrev pub onto_word : ℕ → List ℕ → List (List ℕ) → List (List ℕ)
onto_word b (c ∷ bs) (w ∷ ws) = if c == 32 then (b ∷ []) ∷ w ∷ ws else (b ∷ w) ∷ ws
onto_word b bs ws = (b ∷ []) ∷ ws

-- the words of a line: the runs without a space
abbrev pub words_of : List ℕ → List (List ℕ)
words_of [] = []
words_of (b ∷ bs) = if b == 32 then words_of bs else onto_word b bs (words_of bs)

-- n with these digits after it
abbrev pub number_from : ℕ → List ℕ → Option ℕ
number_from n [] = Some n
number_from n (b ∷ bs) = if nat_le 48 b && nat_le b 57 then number_from (n * 10 + (b - 48)) bs else None

-- it, where it is at most this
abbrev pub at_most : ℕ → Option ℕ → Option ℕ
at_most most None = None
at_most most (Some n) = if nat_le n most then Some n else None

-- the number that a word spells: 1 to 10 digits, and at most 2^32 - 1
abbrev pub number_of : List ℕ → Option ℕ
number_of w = if nat_lt 0 (length w) && nat_le (length w) 10 then at_most 4294967295 (number_from 0 w) else None
