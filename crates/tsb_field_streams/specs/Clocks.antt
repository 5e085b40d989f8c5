-- Times of day, as faults show them. A moment counts nanoseconds from the begin of a day on.
use Rattle.std.specs.Prelude.{ℕ, ◌/◌, ◌%◌, ◌==◌, List, [], ◌∷◌, ◌++◌, take, if◌then◌else◌}
use Rattle.tsb_lines.specs.Digits.{digit}

-- hours, minutes and seconds of a second of a day, and a point
abbrev pub clock_head : ℕ → List ℕ
clock_head second =
    digit (second / 3600) 10 ∷ digit (second / 3600) 1 ∷ 58 ∷ digit (second / 60 % 60) 10 ∷ digit (second / 60 % 60) 1 ∷ 58
    ∷ digit (second % 60) 10 ∷ digit (second % 60) 1 ∷ 46 ∷ []

-- a part of a second, in nanoseconds
abbrev pub nine_digits : ℕ → List ℕ
nine_digits nano =
    digit nano 100000000 ∷ digit nano 10000000 ∷ digit nano 1000000 ∷ digit nano 100000 ∷ digit nano 10000 ∷ digit nano 1000
    ∷ digit nano 100 ∷ digit nano 10 ∷ digit nano 1 ∷ []

-- the same in tenths, in thousandths or in nanoseconds: the first of these that tells it all
abbrev pub fraction_text : ℕ → List ℕ
fraction_text nano =
    if nano % 100000000 == 0 then take 1 (nine_digits nano)
    else if nano % 1000000 == 0 then take 3 (nine_digits nano)
    else nine_digits nano

-- the time of day of a moment
abbrev pub clock_text : ℕ → List ℕ
clock_text nanos = clock_head (nanos / 1000000000 % 86400) ++ fraction_text (nanos % 1000000000)
