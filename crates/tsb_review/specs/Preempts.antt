-- Advices on preempts: A33 to A38, A50 and A51. Times are in tenths of a second.
use Rattle.std.specs.Prelude.{ℕ, ◌==◌, nat_lt, Bool, not, ◌&&◌, ◌||◌}
use Rattle.std.specs.List.{list_any}
use Rattle.tsb_types.specs.Lists.{run_from}
use Rattle.tsb_plan.specs.declared.object.Object.TheVariants.{PreemptTrackPhase, PreemptDwellPhase}
use Rattle.tsb_plan.specs.Parts.{preempt_delay, minimum_duration, preempt_maximum_presence, preempt_minimum_green, preempt_minimum_walk, enter_pedestrian_clear, track_green, is_track_phase, is_dwell_phase}
use Rattle.tsb_plan.specs.Plan.{Plan, phases, is_concurrent, pedestrian_clear}
use Rattle.tsb_rules.specs.Rules.{serves_pedestrians}

-- preempt m has a dwell phase: only then is it ever served
abbrev pub has_dwell : Plan → ℕ → Bool
has_dwell plan m = not (plan.value PreemptDwellPhase m == 0)

-- preempt m has a track phase
abbrev pub has_track : Plan → ℕ → Bool
has_track plan m = not (plan.value PreemptTrackPhase m == 0)

-- A33: p clears the track of preempt m, and is served again in its dwell
abbrev pub fills_track : Plan → ℕ → ℕ → Bool
fills_track plan m p = is_track_phase plan m p && is_dwell_phase plan m p

-- there is a sign of a railroad: preempt m has a track green, or some preempt has a track phase
abbrev pub is_by_railroad : Plan → ℕ → Bool
is_by_railroad plan m = nat_lt 0 (track_green plan m) || list_any (has_track plan) (run_from 1 plan.counts.preempts)

-- A34: preempt m has no delay and no track phase, by a railroad
abbrev pub clears_no_track : Plan → ℕ → Bool
clears_no_track plan m =
    has_dwell plan m && (not (has_track plan m) && (preempt_delay plan m == 0 && is_by_railroad plan m))

-- A35: the minimum duration of preempt m is longer than its maximum presence, which has a limit
abbrev pub lasts_too_long : Plan → ℕ → Bool
lasts_too_long plan m =
    has_dwell plan m && (nat_lt 0 (preempt_maximum_presence plan m) && nat_lt (preempt_maximum_presence plan m) (minimum_duration plan m))

-- preempt m ends the pedestrians of p: it is no track phase where there are some, or no dwell phase
abbrev pub ends_pedestrians : Plan → ℕ → ℕ → Bool
ends_pedestrians plan m p =
    has_dwell plan m && (serves_pedestrians plan p && ((has_track plan m && not (is_track_phase plan m p)) || not (is_dwell_phase plan m p)))

-- A36: preempt m ends a walk of p at once
abbrev pub cuts_walk : Plan → ℕ → ℕ → Bool
cuts_walk plan m p = ends_pedestrians plan m p && preempt_minimum_walk plan m == 0

-- A37: preempt m takes the whole pedestrian clearance of p away
abbrev pub cuts_clearance : Plan → ℕ → ℕ → Bool
cuts_clearance plan m p =
    ends_pedestrians plan m p && (nat_lt 0 (pedestrian_clear plan p) && enter_pedestrian_clear plan m == 0)

-- preempt m has times
abbrev pub has_preempt_times : Plan → ℕ → Bool
has_preempt_times plan m =
    nat_lt 0 (preempt_delay plan m) || (nat_lt 0 (minimum_duration plan m) || (nat_lt 0 (preempt_maximum_presence plan m) ||
    (nat_lt 0 (preempt_minimum_green plan m) || (nat_lt 0 (preempt_minimum_walk plan m) || (nat_lt 0 (enter_pedestrian_clear plan m) ||
    nat_lt 0 (track_green plan m))))))

-- A38: preempt m has times and no dwell phase, so that it is never served
abbrev pub is_never_served : Plan → ℕ → Bool
is_never_served plan m = not (has_dwell plan m) && has_preempt_times plan m

-- A50: preempt m has no track phase and no maximum presence: an input that stays on holds it without end
abbrev pub is_held_by_input : Plan → ℕ → Bool
is_held_by_input plan m = has_dwell plan m && (not (has_track plan m) && preempt_maximum_presence plan m == 0)

-- q is a dwell phase of preempt m, and concurrent with p
abbrev pub dwells_beside : Plan → ℕ → ℕ → ℕ → Bool
dwells_beside plan m p q = is_dwell_phase plan m q && is_concurrent plan p q

-- A51: p is a dwell phase of preempt m, and goes with phases of the other ring, of which none is one
abbrev pub dwells_alone : Plan → ℕ → ℕ → Bool
dwells_alone plan m p =
    is_dwell_phase plan m p && (list_any (is_concurrent plan p) (phases plan) && not (list_any (dwells_beside plan m p) (phases plan)))
