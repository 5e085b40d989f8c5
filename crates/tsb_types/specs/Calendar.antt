-- Dates of the years 2000 to 2099, and their numbers: days since 1999-12-24. Each fourth of these years has a 29
-- February. In functions a year is counted from 2000 and a day of a year from 0, a month and a day of it from 1.
use Rattle.std.specs.Prelude.{ℕ, zero, suc, ◌+◌, ◌-◌, ◌*◌, ◌/◌, ◌%◌, ◌==◌, nat_le, nat_lt, Bool, false, ◌&&◌, if◌then◌else◌}
use Rattle.tsb_types.specs.declared.calendar.ClockDate.{ClockDate}
use Rattle.tsb_types.specs.declared.clock_time.TheConstants.{FIRST_DAY}

-- the year has a 29 February
abbrev pub is_leap : ℕ → Bool
is_leap y = y % 4 == 0

-- the days of a year without a 29 February before its month m, and with 13 all its days
abbrev pub common_days_before : ℕ → ℕ
common_days_before m =
    if m == 1 then 0
    else if m == 2 then 31
    else if m == 3 then 59
    else if m == 4 then 90
    else if m == 5 then 120
    else if m == 6 then 151
    else if m == 7 then 181
    else if m == 8 then 212
    else if m == 9 then 243
    else if m == 10 then 273
    else if m == 11 then 304
    else if m == 12 then 334
    else 365

-- of any year
abbrev pub days_before : Bool → ℕ → ℕ
days_before leap m = if leap && nat_lt 2 m then common_days_before m + 1 else common_days_before m

-- the days from 2000 on before year y
abbrev pub days_of_years : ℕ → ℕ
days_of_years y = 365 * y + (y + 3) / 4

-- the calendar has this day
abbrev pub is_day : ℕ → ℕ → ℕ → Bool
is_day y m d =
    if (nat_lt y 100 && nat_le 1 m) && (nat_le m 12 && (nat_le 1 d && nat_le d 31))
    then nat_le (days_before (is_leap y) m + d) (days_before (is_leap y) (m + 1)) else false

-- its number
abbrev pub day_number : ℕ → ℕ → ℕ → ℕ
day_number y m d = FIRST_DAY + days_of_years y + days_before (is_leap y) m + (d - 1)

-- there is this date
abbrev pub is_date : ClockDate → Bool
is_date date = nat_le 2000 date.year && is_day (date.year - 2000) date.month date.day

-- ## The date of a day

-- the month in which day x of a year is: the last of the first k + 1 that has begun by then
abbrev pub month_up_to : Bool → ℕ → ℕ → ℕ
month_up_to leap x zero = 1
month_up_to leap x (suc k) = if nat_le (days_before leap (k + 2)) x then k + 2 else month_up_to leap x k

-- of twelve
abbrev pub month_of : Bool → ℕ → ℕ
month_of leap x = month_up_to leap x 11

-- the year in which so many days after 2000-01-01 are: four have 1461 days, and the first of these is the longest
abbrev pub year_of : ℕ → ℕ
year_of n = 4 * n / 1461

-- day x of year y
abbrev pub date_in : ℕ → ℕ → ClockDate
date_in y x = record {
  year = 2000 + y;
  month = month_of (is_leap y) x;
  day = x - days_before (is_leap y) (month_of (is_leap y) x) + 1;
}

-- so many days after 2000-01-01
abbrev pub date_after : ℕ → ClockDate
date_after n = date_in (year_of n) (n - days_of_years (year_of n))
