-- What the schedule of a plan runs in a week, as a table: a row for each midnight, and for each minute with which another
-- action comes into force.
use Rattle.std.specs.Prelude.{ℕ, ◌+◌, ◌-◌, ◌*◌, ◌/◌, ◌%◌, ◌==◌, nat_lt, Bool, not, ◌||◌, if◌then◌else◌, List, [], ◌∷◌, ◌++◌, codes, flat_map}
use Rattle.tsb_lines.specs.Digits.{digit}
use Rattle.tsb_types.specs.Calendar.{date_after}
use Rattle.tsb_types.specs.declared.calendar.ClockDate.{ClockDate}
use Rattle.tsb_types.specs.declared.clock_time.TheConstants.{DAY, FIRST_DAY}
use Rattle.tsb_types.specs.Lists.{or_number, run_from}
use Rattle.tsb_plan.specs.Plan.{Plan}
use Rattle.tsb_plan.specs.Schedule.{day_plan_of, selected_by}
use Rattle.tsb_plan.specs.Holding.{holding}
use Rattle.tsb_plan.specs.Acting.{day_at, in_force}

-- the line above the rows
abbrev pub head : List ℕ
head = codes "day            from    action  pattern  entry  day plan\n"

-- a row begins with a minute of the week, which has this moment: at midnight, and where another action is in force than
-- before
abbrev pub begins : Plan → ℕ → ℕ → Bool
begins plan m minute = minute % 1440 == 0 || not (in_force plan m == in_force plan (m - 600))

-- ## A row

-- a number of two digits
abbrev pub two : ℕ → List ℕ
two n = digit n 10 ∷ digit n 1 ∷ []

-- the name of the weekday of a day from 1999-12-24 on, a Friday
abbrev pub weekday_name : ℕ → List ℕ
weekday_name days =
    if days % 7 == 0 then codes "Fri"
    else (if days % 7 == 1 then codes "Sat"
    else (if days % 7 == 2 then codes "Sun"
    else (if days % 7 == 3 then codes "Mon"
    else (if days % 7 == 4 then codes "Tue"
    else (if days % 7 == 5 then codes "Wed" else codes "Thu")))))

-- a date
abbrev pub date_text : ClockDate → List ℕ
date_text d = two (d.year / 100) ++ (two (d.year % 100) ++ (45 ∷ (two d.month ++ (45 ∷ two d.day))))

-- the day of a moment: its date and weekday
abbrev pub day_text : ℕ → List ℕ
day_text m = date_text (date_after (m / DAY - FIRST_DAY)) ++ (32 ∷ weekday_name (m / DAY))

-- the time of a moment: its day, hour and minute
abbrev pub time_text : ℕ → List ℕ
time_text m = day_text m ++ (32 ∷ (two (m % DAY / 600 / 60) ++ (58 ∷ two (m % DAY / 600 % 60))))

-- a number of up to two digits, `-` for 0
abbrev pub number_text : ℕ → List ℕ
number_text n = if n == 0 then codes " -" else (if nat_lt n 10 then 32 ∷ digit n 1 ∷ [] else two n)

-- a pattern, `free` for 0
abbrev pub pattern_text : ℕ → List ℕ
pattern_text n = if n == 0 then codes "     free" else codes "       " ++ number_text n

-- the entry that holds of the day of a moment, 0 for none
abbrev pub entry_at : Plan → ℕ → ℕ
entry_at plan m = or_number (holding plan (day_at m)) 0

-- its day plan, 0 where there is none
abbrev pub day_plan_at : Plan → ℕ → ℕ
day_plan_at plan e = if e == 0 then 0 else day_plan_of plan e

-- the row of a moment, with its line feed
abbrev pub row_at : Plan → ℕ → List ℕ
row_at plan m = time_text m ++ (codes "       " ++ (number_text (in_force plan m) ++ (pattern_text (selected_by plan (in_force plan m))
    ++ (codes "     " ++ (number_text (entry_at plan m) ++ (codes "        " ++ (number_text (day_plan_at plan (entry_at plan m)) ++ codes "\n")))))))

-- ## A week

-- the moment so many minutes after the midnight of the day of a time
abbrev pub moment_of : ℕ → ℕ → ℕ
moment_of first minute = first / DAY * DAY + minute * 600

-- the row that begins with a minute of the week, where one does
abbrev pub row_of : Plan → ℕ → ℕ → List ℕ
row_of plan first minute = if begins plan (moment_of first minute) minute then row_at plan (moment_of first minute) else []

-- the whole: minutes are counted from 0
abbrev pub week_text : Plan → ℕ → List ℕ
week_text plan first = head ++ flat_map (row_of plan first) (run_from 0 10080)
