-- What the schedule of a plan must be (profile): rules K24 to K27. An event is used where it has an action, and an action is
-- defined where it asks for something.
use Rattle.std.specs.Prelude.{ℕ, ◌==◌, nat_le, Bool, not, ◌&&◌, ◌||◌}
use Rattle.std.specs.List.{list_all, list_any}
use Rattle.tsb_types.specs.Lists.{run_from}
use Rattle.tsb_plan.specs.Parts.{is_used}
use Rattle.tsb_plan.specs.Plan.{Plan}
use Rattle.tsb_plan.specs.Schedule.{entry_count, day_plan_count, event_count, action_count, day_plan_of, time_of, action_of, asked_by, free_number}

-- a test that all events of day plan d that are used pass
abbrev pub each_event : Plan → ℕ → (ℕ → Bool) → Bool
each_event plan d test = list_all (λ k. action_of plan d k == 0 || test k) (run_from 1 event_count)

-- event k of day plan d comes at another minute than each event with a lower number
abbrev pub is_apart : Plan → ℕ → ℕ → Bool
is_apart plan d k = each_event plan d (λ j. nat_le k j || not (time_of plan d j == time_of plan d k))

-- no two events of day plan d come at one minute
abbrev pub are_apart : Plan → ℕ → Bool
are_apart plan d = each_event plan d (is_apart plan d)

-- K24: no two events of a day plan come at one minute
abbrev pub events_are_apart : Plan → Bool
events_are_apart plan = list_all (are_apart plan) (run_from 1 day_plan_count)

-- day plan d has an event
abbrev pub has_events : Plan → ℕ → Bool
has_events plan d = list_any (λ k. not (action_of plan d k == 0)) (run_from 1 event_count)

-- an entry names no day plan, or one that has events
abbrev pub runs_events : Plan → ℕ → Bool
runs_events plan e = day_plan_of plan e == 0 || has_events plan (day_plan_of plan e)

-- K25: each day plan that an entry names has events
abbrev pub day_plans_have_events : Plan → Bool
day_plans_have_events plan = list_all (runs_events plan) (run_from 1 entry_count)

-- action a is defined
abbrev pub is_defined : Plan → ℕ → Bool
is_defined plan a = not (asked_by plan a == 0)

-- each action that an event of day plan d names is
abbrev pub names_defined : Plan → ℕ → Bool
names_defined plan d = each_event plan d (λ k. is_defined plan (action_of plan d k))

-- K26: each action that an event names is defined
abbrev pub actions_are_defined : Plan → Bool
actions_are_defined plan = list_all (names_defined plan) (run_from 1 day_plan_count)

-- the number asks for nothing, for free operation, or for a pattern that is used
abbrev pub asks_well : Plan → ℕ → Bool
asks_well plan n = n == 0 || (n == free_number || (nat_le n 16 && is_used plan n))

-- K27: each pattern that an action asks for is used
abbrev pub asked_patterns_are_used : Plan → Bool
asked_patterns_are_used plan = list_all (λ a. asks_well plan (asked_by plan a)) (run_from 1 action_count)
