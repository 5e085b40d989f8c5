-- Advices on the schedule: A60 to A62. Times are in tenths of a second, those of events in minutes.
use Rattle.std.specs.Prelude.{ℕ, ◌+◌, ◌-◌, ◌*◌, ◌==◌, nat_lt, Bool, not, ◌&&◌, is_some, Option}
use Rattle.std.specs.List.{list_any}
use Rattle.tsb_types.specs.Lists.{first, run_from}
use Rattle.tsb_plan.specs.Plan.{Plan}
use Rattle.tsb_plan.specs.Parts.{cycle, is_used}
use Rattle.tsb_plan.specs.Schedule.{entry_count, day_plan_count, event_count, action_of, day_plan_of, has_schedule, names_date, names_month, names_weekday, selected_by, time_of}
use Rattle.tsb_plan.specs.Holding.{length_of}

-- an entry that is used names day d of month m, where that is weekday w
abbrev pub covers : Plan → ℕ → ℕ → ℕ → ℕ → Bool
covers plan m d w e =
    not (day_plan_of plan e == 0) && (names_month plan e m && (names_weekday plan e w && names_date plan e d))

-- none does
abbrev pub is_open : Plan → ℕ → ℕ → ℕ → Bool
is_open plan m d w = not (list_any (covers plan m d w) (run_from 1 entry_count))

-- the first weekday that is open
abbrev pub open_weekday : Plan → ℕ → ℕ → Option ℕ
open_weekday plan m d = first (is_open plan m d) (run_from 1 7)

-- the first day of a month that has one
abbrev pub open_date : Plan → ℕ → Option ℕ
open_date plan m = first (λ d. is_some (open_weekday plan m d)) (run_from 1 (length_of m))

-- the first month that has one
abbrev pub open_month : Plan → Option ℕ
open_month plan = first (λ m. is_some (open_date plan m)) (run_from 1 12)

-- A60: the plan has a schedule, and no entry of it holds on some day
abbrev pub leaves_day_open : Plan → Bool
leaves_day_open plan = has_schedule plan && is_some (open_month plan)

-- event k of day plan d is used, and its action selects pattern n
abbrev pub selects : Plan → ℕ → ℕ → ℕ → Bool
selects plan n d k = not (action_of plan d k == 0) && selected_by plan (action_of plan d k) == n

-- A61: the plan has a schedule, and no event selects pattern n, which is used
abbrev pub is_never_selected : Plan → ℕ → Bool
is_never_selected plan n =
    has_schedule plan && (is_used plan n && not (list_any (λ d. list_any (selects plan n d) (run_from 1 event_count)) (run_from 1 day_plan_count)))

-- the pattern that event k of day plan d selects, 0 for free operation
abbrev pub pattern_at : Plan → ℕ → ℕ → ℕ
pattern_at plan d k = selected_by plan (action_of plan d k)

-- event j is used, and comes after event k, and before a cycle of its pattern is over
abbrev pub comes_soon : Plan → ℕ → ℕ → ℕ → Bool
comes_soon plan d k j =
    not (action_of plan d j == 0) && (nat_lt (time_of plan d k) (time_of plan d j)
    && nat_lt (600 * (time_of plan d j - time_of plan d k)) (cycle plan (pattern_at plan d k)))

-- A62: event k of day plan d is used and selects a pattern, and another event comes before a cycle of it is over
abbrev pub ends_within_cycle : Plan → ℕ → ℕ → Bool
ends_within_cycle plan d k =
    not (action_of plan d k == 0) && (not (pattern_at plan d k == 0) && list_any (comes_soon plan d k) (run_from 1 event_count))
