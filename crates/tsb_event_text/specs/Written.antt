-- Times as text.
use Rattle.std.specs.Prelude.{◌≡◌, ◌≢◌, ℕ, ◌+◌, ◌-◌, ◌*◌, ◌/◌, ◌%◌, ◌<◌, ◌≤◌, List, [], ◌∷◌, ◌++◌, take, get_or}
use Rattle.tsb_lines.specs.Digits.{digit}
use Rattle.tsb_event_text.specs.declared.times.Moment.{Moment}
use Rattle.tsb_event_text.specs.declared.written.TheConstants.{FIRST_DAY, LAST_DAY}
use Rattle.tsb_event_text.specs.declared.texts.TimeText.{TimeText}

-- `YYYY-MM-DD HH:MM:SS.`, with a second of the day
abbrev pub time_head : ℕ → ℕ → ℕ → ℕ → List ℕ
time_head year month day second =
    digit year 1000 ∷ digit year 100 ∷ digit year 10 ∷ digit year 1 ∷ 45 ∷ digit month 10 ∷ digit month 1 ∷ 45 ∷ digit day 10
    ∷ digit day 1 ∷ 32 ∷ digit (second / 3600) 10 ∷ digit (second / 3600) 1 ∷ 58 ∷ digit (second / 60 % 60) 10
    ∷ digit (second / 60 % 60) 1 ∷ 58 ∷ digit (second % 60) 10 ∷ digit (second % 60) 1 ∷ 46 ∷ []

-- a part of a second, in nanoseconds
abbrev pub nine_digits : ℕ → List ℕ
nine_digits nano =
    digit nano 100000000 ∷ digit nano 10000000 ∷ digit nano 1000000 ∷ digit nano 100000 ∷ digit nano 10000 ∷ digit nano 1000
    ∷ digit nano 100 ∷ digit nano 10 ∷ digit nano 1 ∷ []

-- so many of nine digits tell them all: after them stand zeros alone. The last of them is no zero, unless it is the
-- first.
pub record IsEnough (digits : List ℕ) (count : ℕ) : Type 0 where
  pub some : 1 ≤ count
  pub most : count ≤ 9
  pub zeros : (k : ℕ) → count ≤ k → k < 9 → get_or digits k 0 ≡ 48
  pub last : 1 < count → get_or digits (count - 1) 0 ≢ 48

-- the bytes of a time
abbrev pub bytes_of : TimeText → List ℕ
bytes_of time = time.head ++ take time.count time.digits

-- a year of four digits has the moment
abbrev pub IsWritten : Moment → Type 0
IsWritten moment = (FIRST_DAY * 86400000000000 ≤ moment.nanos) × (moment.nanos < (LAST_DAY + 1) * 86400000000000)
