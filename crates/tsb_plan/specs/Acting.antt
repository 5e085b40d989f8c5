-- Which action of the schedule is in force at a moment: that of the latest event at or before it. Where none has come that
-- day it is the last one of the day before, and so back for a year at most. With none operation is free.
use Rattle.std.specs.Prelude.{ℕ, zero, suc, ◌+◌, ◌-◌, ◌/◌, ◌%◌, ◌==◌, nat_le, nat_lt, Bool, not, ◌&&◌, if◌then◌else◌, List, [], ◌∷◌, Option, Some, None}
use Rattle.tsb_types.specs.Lists.{run_from, or_else, or_number}
use Rattle.tsb_types.specs.declared.clock_time.TheConstants.{DAY}
use Rattle.tsb_plan.specs.Plan.{Plan}
use Rattle.tsb_plan.specs.Schedule.{event_count, day_plan_of, time_of, action_of}
use Rattle.tsb_plan.specs.Holding.{holding}

-- the event is used, and has come at that minute
abbrev pub has_come : Plan → ℕ → ℕ → ℕ → Bool
has_come plan d minute k = not (action_of plan d k == 0) && nat_le (time_of plan d k) minute

-- the later of an event of day plan d, where there is one, and of one with a greater number, if that has come
abbrev pub later_event : Plan → ℕ → ℕ → Option ℕ → ℕ → Option ℕ
later_event plan d minute None k = if has_come plan d minute k then Some k else None
later_event plan d minute (Some j) k =
    if has_come plan d minute k && nat_lt (time_of plan d j) (time_of plan d k) then Some k else Some j

-- the latest of it and of a list
abbrev pub latest : Plan → ℕ → ℕ → Option ℕ → List ℕ → Option ℕ
latest plan d minute j [] = j
latest plan d minute j (k ∷ ks) = latest plan d minute (later_event plan d minute j k) ks

-- the action of an event of day plan d, if there is one
abbrev pub action_if : Plan → ℕ → Option ℕ → Option ℕ
action_if plan d None = None
action_if plan d (Some k) = Some (action_of plan d k)

-- that of the latest event of the day plan of an entry, if one holds
abbrev pub action_by : Plan → ℕ → Option ℕ → Option ℕ
action_by plan minute None = None
action_by plan minute (Some e) = action_if plan (day_plan_of plan e) (latest plan (day_plan_of plan e) minute None (run_from 1 event_count))

-- the action of the day itself at that minute; none where no event has come
abbrev pub action_on : Plan → ℕ → ℕ → Option ℕ
action_on plan day minute = action_by plan minute (holding plan day)

-- the last minute of a day
abbrev pub last_minute : ℕ
last_minute = 1439

-- the last action of the n days before a day
abbrev pub action_before : Plan → ℕ → ℕ → Option ℕ
action_before plan zero day = None
action_before plan (suc n) day = or_else (action_on plan (day - 1) last_minute) (action_before plan n (day - 1))

-- how many days are searched back
abbrev pub searched : ℕ
searched = 365

-- ## Moments of a clock, in tenths of a second from 1999-12-24 00:00

-- the days from 1996-01-01 to 1999-12-24
abbrev pub days_earlier : ℕ
days_earlier = 1453

-- the day of a moment
abbrev pub day_at : ℕ → ℕ
day_at m = m / DAY + days_earlier

-- the minute of that day
abbrev pub minute_at : ℕ → ℕ
minute_at m = m % DAY / 600

-- the action in force; none where none of a year has come
unfoldable pub action_at : Plan → ℕ → Option ℕ
action_at plan m = or_else (action_on plan (day_at m) (minute_at m)) (action_before plan searched (day_at m))

-- its number, 0 for none
abbrev pub in_force : Plan → ℕ → ℕ
in_force plan m = or_number (action_at plan m) 0
