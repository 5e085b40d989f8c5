-- What of a schedule breaks a rule (profile): K24 to K27.
use Rattle.std.specs.Prelude.{ℕ, ◌==◌, nat_le, nat_lt, Bool, not, ◌&&◌}
use Rattle.tsb_plan.specs.Parts.{is_used}
use Rattle.tsb_plan.specs.Plan.{Plan}
use Rattle.tsb_plan.specs.Schedule.{day_plan_of, time_of, action_of, asked_by, free_number}
use Rattle.tsb_rules.specs.ScheduleRules.{has_events}

-- K24: events j and k of day plan d, the lower number first, are used and come at one minute
abbrev pub come_together : Plan → ℕ → ℕ → ℕ → Bool
come_together plan d j k =
    nat_lt j k && (not (action_of plan d j == 0) && (not (action_of plan d k == 0) && time_of plan d j == time_of plan d k))

-- day plan d has no event
abbrev pub has_no_events : Plan → ℕ → Bool
has_no_events plan d = not (has_events plan d)

-- K25: an entry names a day plan that has none
abbrev pub runs_nothing : Plan → ℕ → Bool
runs_nothing plan e = not (day_plan_of plan e == 0) && has_no_events plan (day_plan_of plan e)

-- K26: event k of day plan d names an action that is not defined
abbrev pub names_undefined : Plan → ℕ → ℕ → Bool
names_undefined plan d k = not (action_of plan d k == 0) && asked_by plan (action_of plan d k) == 0

-- K27: action a asks for a pattern with a number over 16 that is not that of free operation
abbrev pub asks_for_no_pattern : Plan → ℕ → Bool
asks_for_no_pattern plan a = nat_lt 16 (asked_by plan a) && not (asked_by plan a == free_number)

-- or for one that is not used
abbrev pub asks_for_unused : Plan → ℕ → Bool
asks_for_unused plan a =
    not (asked_by plan a == 0) && (nat_le (asked_by plan a) 16 && not (is_used plan (asked_by plan a)))
