-- The text of a time that a clock is set to, as commands have it: a date, `2026-11-22`, and a time of day, `07:00:00` or
-- `07:00:00.1`.
use Rattle.std.specs.Prelude.{ℕ, ◌+◌, ◌-◌, ◌*◌, ◌/◌, ◌%◌, ◌==◌, nat_lt, Bool, ◌&&◌, ◌||◌, if◌then◌else◌, List, [], ◌∷◌, length, take, drop, slice_index, Option, Some, None}
use Rattle.tsb_lines.specs.Digits.{digit}
use Rattle.tsb_lines.specs.Words.{number_of}
use Rattle.tsb_types.specs.declared.clock_time.TheConstants.{DAY, FIRST_DAY}
use Rattle.tsb_types.specs.Calendar.{day_number, date_after, is_date}
use Rattle.tsb_types.specs.declared.calendar.ClockDate.{ClockDate}

-- ## Reading

-- so many bytes from this place on
abbrev pub part : ℕ → ℕ → List ℕ → List ℕ
part place count text = take count (drop place text)

-- this byte, at this place
abbrev pub has : ℕ → ℕ → List ℕ → Bool
has byte place text = slice_index text place == byte

-- the date of a year, a month and a day, where the calendar has it
abbrev pub date_of_three : Option ℕ → Option ℕ → Option ℕ → Option ClockDate
date_of_three (Some year) (Some month) (Some day) =
    if is_date (record { year = year; month = month; day = day }) then Some (record { year = year; month = month; day = day }) else None
date_of_three year month day = None

-- the date that a word is
abbrev pub date_in_word : List ℕ → Option ClockDate
date_in_word w =
    if length w == 10 && (has 45 4 w && has 45 7 w)
    then date_of_three (number_of (part 0 4 w)) (number_of (part 5 2 w)) (number_of (part 8 2 w)) else None

-- the tenths of a second since midnight of an hour, a minute, a second and a tenth
abbrev pub time_of_four : Option ℕ → Option ℕ → Option ℕ → Option ℕ → Option ℕ
time_of_four (Some hour) (Some minute) (Some second) (Some tenth) =
    if nat_lt hour 24 && (nat_lt minute 60 && (nat_lt second 60 && nat_lt tenth 10))
    then Some (((hour * 60 + minute) * 60 + second) * 10 + tenth) else None
time_of_four hour minute second tenth = None

-- the tenth that the rest of a time is: none, or a point and a digit
abbrev pub tenth_of : List ℕ → Option ℕ
tenth_of w = if length w == 8 then Some 0 else (if length w == 10 && has 46 8 w then number_of (part 9 1 w) else None)

-- the time of day that a word is
abbrev pub time_in_word : List ℕ → Option ℕ
time_in_word w =
    if (length w == 8 || length w == 10) && (has 58 2 w && has 58 5 w)
    then time_of_four (number_of (part 0 2 w)) (number_of (part 3 2 w)) (number_of (part 6 2 w)) (tenth_of w) else None

-- the time of a date and a time of day
abbrev pub clock_at : Option ClockDate → Option ℕ → Option ℕ
clock_at (Some date) (Some time) = Some (day_number (date.year - 2000) date.month date.day * DAY + time)
clock_at date time = None

-- that two words are
abbrev pub clock_of : List ℕ → List ℕ → Option ℕ
clock_of date time = clock_at (date_in_word date) (time_in_word time)

-- ## Writing

-- a date
abbrev pub date_text : ClockDate → List ℕ
date_text d =
    digit d.year 1000 ∷ digit d.year 100 ∷ digit d.year 10 ∷ digit d.year 1 ∷ 45
    ∷ digit d.month 10 ∷ digit d.month 1 ∷ 45 ∷ digit d.day 10 ∷ digit d.day 1 ∷ []

-- a time of day in tenths of a second, with the tenth
abbrev pub time_text : ℕ → List ℕ
time_text t =
    digit (t / 36000) 10 ∷ digit (t / 36000) 1 ∷ 58 ∷ digit (t / 600 % 60) 10 ∷ digit (t / 600 % 60) 1 ∷ 58
    ∷ digit (t / 10 % 60) 10 ∷ digit (t / 10 % 60) 1 ∷ 46 ∷ digit (t % 10) 1 ∷ []

-- the date of a time that a clock is set to
abbrev pub date_of : ℕ → ClockDate
date_of time = date_after (time / DAY - FIRST_DAY)
