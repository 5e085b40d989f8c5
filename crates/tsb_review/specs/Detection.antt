-- Advices on vehicle detectors: A48, A49 and A53. Times are in tenths of a second.
use Rattle.std.specs.Prelude.{ℕ, ◌*◌, ◌==◌, nat_le, nat_lt, Bool, not, ◌&&◌, ◌||◌, Option, Some, None, is_some}
use Rattle.std.specs.List.{list_any}
use Rattle.tsb_types.specs.Lists.{first, is, run_from}
use Rattle.tsb_plan.specs.Parts.{call_phase, cycle, detector_delay, no_activity, maximum_presence, erratic_counts, fail_time}
use Rattle.tsb_plan.specs.Plan.{Plan, is_enabled, is_non_locking}
use Rattle.tsb_review.specs.Actuation.{phase_and}
use Rattle.tsb_review.specs.Calls.{has_detector, has_recall}

-- vehicle detector d has a diagnosis: of no activity, of maximum presence or of erratic counts
abbrev pub has_diagnosis : Plan → ℕ → Bool
has_diagnosis plan d = nat_lt 0 (no_activity plan d) || (nat_lt 0 (maximum_presence plan d) || nat_lt 0 (erratic_counts plan d))

-- another vehicle detector than d calls p
abbrev pub has_other_detector : Plan → ℕ → ℕ → Bool
has_other_detector plan d p = list_any (λ e. not (e == d) && is p (call_phase plan e)) (run_from 1 plan.counts.vehicle_detectors)

-- of vehicle detectors d alone calls p, which has no recall of its own
abbrev pub is_only_caller : Plan → ℕ → ℕ → Bool
is_only_caller plan d p = not (has_other_detector plan d p) && not (has_recall plan p)

-- A48: vehicle detector d has a diagnosis and a fail time of 0, and is the only one of its phase, which has no recall
abbrev pub forgets_its_phase : Plan → ℕ → Bool
forgets_its_phase plan d =
    has_diagnosis plan d && (fail_time plan d == 0 && phase_and (is_only_caller plan d) (call_phase plan d))

-- vehicle detector d has a maximum presence, of at most two cycles of pattern n
abbrev pub trips_within : Plan → ℕ → ℕ → Bool
trips_within plan d n = nat_lt 0 (maximum_presence plan d) && nat_le (maximum_presence plan d) (2 * cycle plan n)

-- the first such pattern
abbrev pub tripping : Plan → ℕ → Option ℕ
tripping plan d = first (trips_within plan d) (run_from 1 16)

-- the cycle of a pattern, 0 where there is none
abbrev pub cycle_of : Plan → Option ℕ → ℕ
cycle_of plan None = 0
cycle_of plan (Some n) = cycle plan n

-- A49: vehicle detector d calls a phase, and its maximum presence is at most two cycles of a pattern: a queue trips it
abbrev pub trips_in_queue : Plan → ℕ → Bool
trips_in_queue plan d = is_some (call_phase plan d) && is_some (tripping plan d)

-- a vehicle detector without a delay calls p
abbrev pub has_prompt_detector : Plan → ℕ → Bool
has_prompt_detector plan p = list_any (λ d. is p (call_phase plan d) && detector_delay plan d == 0) (run_from 1 plan.counts.vehicle_detectors)

-- p has vehicle detectors, each of them with a delay
abbrev pub is_called_late : Plan → ℕ → Bool
is_called_late plan p = has_detector plan p && not (has_prompt_detector plan p)

-- A53: p is non-locking, each of its vehicle detectors has a delay, and it has no recall of its own: a car that stops
-- beyond the detectors is forgotten
abbrev pub forgets_cars : Plan → ℕ → Bool
forgets_cars plan p = is_enabled plan p && (is_non_locking plan p && (is_called_late plan p && not (has_recall plan p)))
