-- Times as exports write them, `2026-11-22 07:00:00.1`: of a clock without a zone, whose days have 24 hours.
use Rattle.std.specs.Prelude.{ℕ, ◌+◌, ◌*◌, ◌==◌, ◌&&◌, ◌||◌, nat_le, nat_lt, Bool, List, [], ◌∷◌, ◌++◌, if◌then◌else◌, length, take, drop, slice_index, Option, Some, None, codes, pos, ◌+ℤ◌, unsigned_abs}
use Rattle.jiff_core.specs.Calendar.{days_from_civil, days_in_month}
use Rattle.tsb_lines.specs.Words.{number_of}
use Rattle.tsb_event_text.specs.declared.times.Moment.{Moment}

-- so many bytes from this place on
abbrev pub part : ℕ → ℕ → List ℕ → List ℕ
part place count text = take count (drop place text)

-- this byte, at this place
abbrev pub has : ℕ → ℕ → List ℕ → Bool
has byte place text = slice_index text place == byte

-- the calendar has this day, of a year in four digits
abbrev pub is_day : ℕ → ℕ → ℕ → Bool
is_day year month day =
    nat_le year 9999 && nat_le 1 month && nat_le month 12 && nat_le 1 day && nat_le day (days_in_month (pos year) month)

-- how many days lie before it from -9999-01-01 on, the first day that the calendar has
abbrev pub day_number : ℕ → ℕ → ℕ → ℕ
day_number year month day = unsigned_abs (days_from_civil (pos year) month day +ℤ pos 4371587)

-- the day of a year, a month and a day
abbrev pub day_of : Option ℕ → Option ℕ → Option ℕ → Option ℕ
day_of (Some year) (Some month) (Some day) = if is_day year month day then Some (day_number year month day) else None
day_of year month day = None

-- the second of a day, from 0, of an hour, a minute and a second
abbrev pub second_of : Option ℕ → Option ℕ → Option ℕ → Option ℕ
second_of (Some hour) (Some minute) (Some second) =
    if nat_lt hour 24 && nat_lt minute 60 && nat_lt second 60 then Some (hour * 3600 + minute * 60 + second) else None
second_of hour minute second = None

-- the nanoseconds that the rest of a time spells: nothing, or a point and one to nine digits of a second
abbrev pub nano_of : List ℕ → Option ℕ
nano_of [] = Some 0
nano_of (b ∷ digits) =
    if b == 46 && nat_le 1 (length digits) && nat_le (length digits) 9
    then number_of (digits ++ drop (length digits) (codes "000000000")) else None

-- the moment so many nanoseconds after a second of a day
abbrev pub moment_at : Option ℕ → Option ℕ → Option ℕ → Option Moment
moment_at (Some day) (Some second) (Some nano) = Some (record { nanos = (day * 86400 + second) * 1000000000 + nano })
moment_at day second nano = None

-- the marks between the numbers of a time: a space or T stands between its day and its clock
abbrev pub has_marks : List ℕ → Bool
has_marks text = has 45 4 text && has 45 7 text && (has 32 10 text || has 84 10 text) && has 58 13 text && has 58 16 text

-- the moment that a text names
unfoldable pub moment_of : List ℕ → Option Moment
moment_of text =
    if nat_le 19 (length text) && has_marks text
    then moment_at (day_of (number_of (part 0 4 text)) (number_of (part 5 2 text)) (number_of (part 8 2 text)))
    (second_of (number_of (part 11 2 text)) (number_of (part 14 2 text)) (number_of (part 17 2 text)))
    (nano_of (drop 19 text))
    else None
