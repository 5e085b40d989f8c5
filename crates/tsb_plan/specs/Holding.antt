-- Which entry of the schedule holds of a day: of those that match it the one with the fewest days a year, and of those the
-- one with the least number (NTCIP 1201 asks for the most specific; how it is found is the profile's own). A day is
-- counted from 1996-01-01, a Monday and the first day of a leap year, so that a whole year comes before each moment of a
-- clock.
use Rattle.std.specs.Prelude.{ℕ, ◌+◌, ◌-◌, ◌*◌, ◌%◌, ◌==◌, nat_lt, Bool, true, not, ◌&&◌, if◌then◌else◌, List, [], ◌∷◌, Option, Some, None, sum_by}
use Rattle.tsb_types.specs.Calendar.{date_after, days_before}
use Rattle.tsb_types.specs.declared.calendar.ClockDate.{ClockDate}
use Rattle.tsb_types.specs.Lists.{run_from}
use Rattle.tsb_plan.specs.Plan.{Plan}
use Rattle.tsb_plan.specs.Schedule.{entry_count, day_plan_of, names_month, names_weekday, names_date}

-- the date of a day, without its year: months and days of four years are like those of the four from 2000 on
abbrev pub date_of : ℕ → ClockDate
date_of day = date_after (day % 1461)

-- its weekday: 1 Sunday to 7 Saturday
abbrev pub weekday_of : ℕ → ℕ
weekday_of day = (day + 1) % 7 + 1

-- the entry is used, and names the month, the weekday and the day of the month
abbrev pub matches : Plan → ℕ → ℕ → Bool
matches plan e day =
    not (day_plan_of plan e == 0) &&
    (names_month plan e (date_of day).month && (names_weekday plan e (weekday_of day) && names_date plan e (date_of day).day))

-- ## How many days

-- 1 for true
abbrev pub one_if : Bool → ℕ
one_if b = if b then 1 else 0

-- how many weekdays the entry names
abbrev pub weekdays_in : Plan → ℕ → ℕ
weekdays_in plan e = sum_by (λ w. one_if (names_weekday plan e w)) (run_from 1 7)

-- the days of a month of a leap year
abbrev pub length_of : ℕ → ℕ
length_of m = days_before true (m + 1) - days_before true m

-- how many days of a month of so many days it names
abbrev pub dates_in : Plan → ℕ → ℕ → ℕ
dates_in plan e l = sum_by (λ d. one_if (names_date plan e d)) (run_from 1 l)

-- and of a month that it names, in a leap year; 0 of any other
abbrev pub dates_of_month : Plan → ℕ → ℕ → ℕ
dates_of_month plan e m = if names_month plan e m then dates_in plan e (length_of m) else 0

-- of all its months
abbrev pub dates_of : Plan → ℕ → ℕ
dates_of plan e = sum_by (dates_of_month plan e) (run_from 1 12)

-- On how many days of a leap year an entry matches, in sevenths of a day: each of its dates comes on each weekday in one
-- of seven years, so no year counts more than another.
unfoldable pub sevenths : Plan → ℕ → ℕ
sevenths plan e = weekdays_in plan e * dates_of plan e

-- ## The entry that holds

-- the better of an entry, where there is one, and of one with a greater number, for a day
abbrev pub better : Plan → ℕ → Option ℕ → ℕ → Option ℕ
better plan day None e = if matches plan e day then Some e else None
better plan day (Some b) e =
    if matches plan e day && nat_lt (sevenths plan e) (sevenths plan b) then Some e else Some b

-- the best of it and of a list
abbrev pub best : Plan → ℕ → Option ℕ → List ℕ → Option ℕ
best plan day b [] = b
best plan day b (e ∷ es) = best plan day (better plan day b e) es

-- the entry that holds of a day; none where none matches it
unfoldable pub holding : Plan → ℕ → Option ℕ
holding plan day = best plan day None (run_from 1 entry_count)
