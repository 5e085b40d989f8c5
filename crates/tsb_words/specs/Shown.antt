-- Words as lines show them.
use Rattle.std.specs.Prelude.{ℕ, ◌==◌, ◌||◌, nat_lt, List, map, take, if◌then◌else◌}
use Rattle.tsb_words.specs.declared.shown.TheConstants.{SHOWN_BYTES}

-- a byte as it is shown: a question mark for a double quote and for all that is no printed character of ASCII
abbrev pub safe : ℕ → ℕ
safe byte = if nat_lt byte 32 || nat_lt 126 byte || byte == 34 then 63 else byte

-- a word as it is shown: its first bytes
abbrev pub shown : List ℕ → List ℕ
shown word = map safe (take SHOWN_BYTES word)
