-- What a plan says of the calendar, by the objects of NTCIP 1201 and 1202: entries of the time base schedule, events of day
-- plans, and what each action selects. Entries, day plans, events and actions are numbered from 1. That an event with
-- action 0 is not used is the profile's own.
use Rattle.std.specs.Prelude.{ℕ, ◌+◌, ◌-◌, ◌*◌, ◌==◌, nat_lt, Bool, not, if◌then◌else◌}
use Rattle.std.specs.Int.{bit_at}
use Rattle.std.specs.List.{list_any}
use Rattle.tsb_plan.specs.Plan.{Plan}
use Rattle.tsb_plan.specs.declared.object.Object.TheVariants.{TimeBaseScheduleMonth, TimeBaseScheduleDay, TimeBaseScheduleDate, TimeBaseScheduleDayPlan, DayPlanHour, DayPlanMinute, DayPlanActionNumber, TimebaseAscPattern, ActionArrowOmit}
use Rattle.tsb_types.specs.Lists.{run_from}

-- how many entries there are (profile)
abbrev pub entry_count : ℕ
entry_count = 32

-- day plans
abbrev pub day_plan_count : ℕ
day_plan_count = 16

-- events of each
abbrev pub event_count : ℕ
event_count = 16

-- and actions
abbrev pub action_count : ℕ
action_count = 32

-- a sum of powers of two has 2 ^ k
abbrev pub has_bit : ℕ → ℕ → Bool
has_bit mask k = bit_at mask k == 1

-- ## Entries

-- the day plan of an entry, 0 for an entry that is not used
abbrev pub day_plan_of : Plan → ℕ → ℕ
day_plan_of plan e = plan.value TimeBaseScheduleDayPlan e

-- an entry names a month, January 1
abbrev pub names_month : Plan → ℕ → ℕ → Bool
names_month plan e m = has_bit (plan.value TimeBaseScheduleMonth e) m

-- a weekday, Sunday 1
abbrev pub names_weekday : Plan → ℕ → ℕ → Bool
names_weekday plan e w = has_bit (plan.value TimeBaseScheduleDay e) w

-- a day of the month: the first half of timeBaseScheduleDate has those below 16, the second one the others (profile)
abbrev pub names_date : Plan → ℕ → ℕ → Bool
names_date plan e d =
    if nat_lt d 16 then has_bit (plan.value TimeBaseScheduleDate e) d else has_bit (plan.value TimeBaseScheduleDate (entry_count + e)) (d - 16)

-- an entry names a day plan: only then does the plan have a schedule
abbrev pub has_schedule : Plan → Bool
has_schedule plan = list_any (λ e. not (day_plan_of plan e == 0)) (run_from 1 entry_count)

-- ## Day plans

-- the index of event k of day plan d
abbrev pub event_index : ℕ → ℕ → ℕ
event_index d k = event_count * (d - 1) + k

-- when the event comes, in minutes after midnight
abbrev pub time_of : Plan → ℕ → ℕ → ℕ
time_of plan d k = 60 * plan.value DayPlanHour (event_index d k) + plan.value DayPlanMinute (event_index d k)

-- its action, 0 for an event that is not used
abbrev pub action_of : Plan → ℕ → ℕ → ℕ
action_of plan d k = plan.value DayPlanActionNumber (event_index d k)

-- ## Actions

-- what timebaseAscPattern has for free operation
abbrev pub free_number : ℕ
free_number = 254

-- what an action asks for: 1 to 16 a pattern, 254 free operation, 0 for an action that is not defined
abbrev pub asked_by : Plan → ℕ → ℕ
asked_by plan a = plan.value TimebaseAscPattern a

-- the pattern that a number asks for, 0 for free operation
abbrev pub pattern_for : ℕ → ℕ
pattern_for n = if n == free_number then 0 else n

-- the pattern that an action selects; 0 for free operation, as it is with no action, 0
abbrev pub selected_by : Plan → ℕ → ℕ
selected_by plan a = if a == 0 then 0 else pattern_for (asked_by plan a)

-- the list of arrows that an action omits; none with no action, 0
abbrev pub omitted_by : Plan → ℕ → ℕ
omitted_by plan a = if a == 0 then 0 else plan.value ActionArrowOmit a
