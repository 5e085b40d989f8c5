-- Advices on actuation: A17 to A26, and A58. Times are in tenths of a second.
use Rattle.std.specs.Prelude.{ℕ, ◌*◌, ◌==◌, nat_le, nat_lt, Bool, false, not, ◌&&◌, ◌||◌, Option, Some, None, min}
use Rattle.std.specs.List.{list_all, list_any}
use Rattle.tsb_types.specs.Lists.{is, run_from}
use Rattle.tsb_plan.specs.Parts.{call_phase, detector_delay, detector_extend}
use Rattle.tsb_plan.specs.Plan.{Plan, phases, is_enabled, has_maximum_recall, has_variable_initial, minimum_green, maximum, maximum_initial, added_initial, passage, minimum_gap, time_before_reduction, cars_before_reduction, time_to_reduce, dynamic_maximum_limit, dynamic_maximum_step}
use Rattle.tsb_review.specs.Calls.{has_detector, conflicts, has_conflicts}

-- some vehicle detector that calls p has an extension
abbrev pub has_extension : Plan → ℕ → Bool
has_extension plan p = list_any (λ d. is p (call_phase plan d) && nat_lt 0 (detector_extend plan d)) (run_from 1 plan.counts.vehicle_detectors)

-- p is enabled, has vehicle detectors and no maximum recall, and no detector extends it
abbrev pub is_unextended : Plan → ℕ → Bool
is_unextended plan p =
    is_enabled plan p && (has_detector plan p && (not (has_maximum_recall plan p) && not (has_extension plan p)))

-- A17: p has vehicle detectors and no maximum recall; its passage is 0, and no detector extends it
abbrev pub ends_at_any_gap : Plan → ℕ → Bool
ends_at_any_gap plan p = is_unextended plan p && passage plan p == 0

-- A58: the passage of such a phase is over 0 and under 1 second
abbrev pub has_short_passage : Plan → ℕ → Bool
has_short_passage plan p = is_unextended plan p && (nat_lt 0 (passage plan p) && nat_lt (passage plan p) 10)

-- the times of gap reduction of p are 0: it begins and is complete as soon as there is a conflict
abbrev pub reduces_at_once : Plan → ℕ → Bool
reduces_at_once plan p = time_before_reduction plan p == 0 && time_to_reduce plan p == 0

-- A18: the minimum gap of p is below its passage, and its gap is the minimum gap at once
abbrev pub has_gap_trap : Plan → ℕ → Bool
has_gap_trap plan p = is_enabled plan p && (nat_lt (minimum_gap plan p) (passage plan p) && reduces_at_once plan p)

-- p has times or cars of gap reduction
abbrev pub has_reduction : Plan → ℕ → Bool
has_reduction plan p = not (reduces_at_once plan p) || nat_lt 0 (cars_before_reduction plan p)

-- A19: p has them, and its minimum gap is its passage, so that nothing is reduced
abbrev pub reduces_nothing : Plan → ℕ → Bool
reduces_nothing plan p = is_enabled plan p && (minimum_gap plan p == passage plan p && has_reduction plan p)

-- A20: the gap of p would be reduced, by no number of cars, and not before its maximum is over
abbrev pub reduces_too_late : Plan → ℕ → Bool
reduces_too_late plan p =
    is_enabled plan p && (nat_lt (minimum_gap plan p) (passage plan p) && (cars_before_reduction plan p == 0 &&
    (nat_lt 0 (time_before_reduction plan p) && nat_le (maximum plan p) (time_before_reduction plan p))))

-- the longest initial that any number of cars brings p to, 255 of which are counted at most
abbrev pub longest_initial : Plan → ℕ → ℕ
longest_initial plan p = min (maximum_initial plan p) (added_initial plan p * 255)

-- A21: p has a variable initial, which no number of cars brings over its minimum green
abbrev pub has_idle_initial : Plan → ℕ → Bool
has_idle_initial plan p =
    is_enabled plan p && (has_variable_initial plan p && nat_le (longest_initial plan p) (minimum_green plan p))

-- A22: p has an added or a maximum initial, and no variable initial to use it
abbrev pub adds_without_variable : Plan → ℕ → Bool
adds_without_variable plan p =
    is_enabled plan p && (not (has_variable_initial plan p) && (nat_lt 0 (added_initial plan p) || nat_lt 0 (maximum_initial plan p)))

-- A23: p has the limit of a dynamic maximum, and a step of 0
abbrev pub has_limit_alone : Plan → ℕ → Bool
has_limit_alone plan p = is_enabled plan p && (nat_lt 0 (dynamic_maximum_limit plan p) && dynamic_maximum_step plan p == 0)

-- A24: p has the step of a dynamic maximum, and a limit of 0
abbrev pub has_step_alone : Plan → ℕ → Bool
has_step_alone plan p = is_enabled plan p && (nat_lt 0 (dynamic_maximum_step plan p) && dynamic_maximum_limit plan p == 0)

-- each phase that conflicts with p, of which there are some, has a maximum below this time
abbrev pub waits_longer : Plan → ℕ → ℕ → Bool
waits_longer plan time p =
    has_conflicts plan p && list_all (λ q. not (conflicts plan p q) || nat_lt (maximum plan q) time) (phases plan)

-- there is a phase, and it passes a test
abbrev pub phase_and : (ℕ → Bool) → Option ℕ → Bool
phase_and test None = false
phase_and test (Some p) = test p

-- A25: the delay of vehicle detector d is longer than the maximum of each phase that conflicts with the one that it calls
abbrev pub delays_too_long : Plan → ℕ → Bool
delays_too_long plan d = phase_and (waits_longer plan (detector_delay plan d)) (call_phase plan d)

-- A26: vehicle detector d extends a phase with maximum recall, whose green no gap ends
abbrev pub extends_for_nothing : Plan → ℕ → Bool
extends_for_nothing plan d = nat_lt 0 (detector_extend plan d) && phase_and (has_maximum_recall plan) (call_phase plan d)
