-- The rules that a plan must meet (profile), each as a test, and the first of them that it breaks. "Each phase" is each
-- enabled phase. What sequences and patterns must be is in files of their own.
use Rattle.std.specs.Prelude.{ℕ, ◌==◌, nat_le, Bool, true, false, not, ◌&&◌, ◌||◌, Option, Some, None, Result, Ok, Err}
use Rattle.std.specs.List.{list_all, list_any}
use Rattle.tsb_plan.specs.declared.object.Object.{Object}
use Rattle.tsb_plan.specs.declared.object.Object.TheVariants.{PhaseConcurrency, PhaseWalk, PhaseMinimumGreen, PhaseMaximum1, PhaseMaximum2, OverlapIncludedPhases, OverlapModifierPhases, OverlapTrailGreen, OverlapType, PreemptTrackPhase, PreemptDwellPhase, PreemptExitPhase}
use Rattle.tsb_rules.specs.declared.rules.Rule.{Rule}
use Rattle.tsb_rules.specs.declared.rules.Rule.TheVariants.{K1, K2, K3, K4, K5, K6, K7, K8, K9, K10, K11, K12, K13, K14, K15, K16, K17, K18, K19, K20, K21, K22, K23, K24, K25, K26, K27, K28, K29}
use Rattle.tsb_types.specs.Lists.{first, run_from}
use Rattle.tsb_plan.specs.Parts.{call_phase, pedestrian_call_phase, is_included, is_modifier, includes_none, trail_yellow}
use Rattle.tsb_rules.specs.PatternRules.{patterns_are_whole, splits_hold_phases, splits_fill_cycles, coordinated_phases_agree, permissive_times_end}
use Rattle.tsb_rules.specs.ScheduleRules.{events_are_apart, day_plans_have_events, actions_are_defined, asked_patterns_are_used}
use Rattle.tsb_plan.specs.Plan.{Plan, phases, is_enabled, has_pedestrian_recall, ring_of, side_of, is_concurrent, minimum_green, minimum_gap, passage, yellow_change, dynamic_maximum_limit}
use Rattle.tsb_rules.specs.SequenceRules.{each_phase, first_sequence_is_ordered, other_sequences_are_ordered}
use Rattle.tsb_types.specs.Sets.{names}

-- K1: at least one phase is enabled
abbrev pub some_enabled : Plan → Bool
some_enabled plan = list_any (is_enabled plan) (phases plan)

-- p is of ring 1 or 2, and on one of the sides
abbrev pub is_placed : Plan → ℕ → Bool
is_placed plan p = (ring_of plan p == 1 || ring_of plan p == 2) && (nat_le 1 (side_of plan p) && nat_le (side_of plan p) plan.side_count)

-- K2: each phase has ring 1 or 2, and one of the sides
abbrev pub are_placed : Plan → Bool
are_placed plan = each_phase plan (is_placed plan)

-- K3: the concurrency list of a phase that is not enabled is empty
abbrev pub unused_lists_are_empty : Plan → Bool
unused_lists_are_empty plan = list_all (λ p. is_enabled plan p || plan.value PhaseConcurrency p == 0) (phases plan)

-- q is enabled, of the other ring than p, and on the same side
abbrev pub may_be_concurrent : Plan → ℕ → ℕ → Bool
may_be_concurrent plan p q = is_enabled plan q && (not (ring_of plan p == ring_of plan q) && side_of plan p == side_of plan q)

-- the concurrency list of p names only phases that may be concurrent with it
abbrev pub names_across_rings : Plan → ℕ → Bool
names_across_rings plan p = list_all (λ q. not (is_concurrent plan p q) || may_be_concurrent plan p q) (phases plan)

-- K4: a phase's concurrency list names only enabled phases of the other ring and the same side
abbrev pub lists_name_across_rings : Plan → Bool
lists_name_across_rings plan = each_phase plan (names_across_rings plan)

-- each phase that p's concurrency list names has p in its own
abbrev pub is_named_back : Plan → ℕ → Bool
is_named_back plan p = list_all (λ q. not (is_concurrent plan p q) || is_concurrent plan q p) (phases plan)

-- K5: concurrency is symmetric, between all phases, enabled or not
abbrev pub concurrency_is_symmetric : Plan → Bool
concurrency_is_symmetric plan = list_all (is_named_back plan) (phases plan)

-- K8: phaseYellowChange of each phase is at least 30 tenths of a second
abbrev pub yellows_are_long : Plan → Bool
yellows_are_long plan = each_phase plan (λ p. nat_le 30 (yellow_change plan p))

-- K9: phaseMinimumGap of each phase is at most its phasePassage
abbrev pub gaps_can_reduce : Plan → Bool
gaps_can_reduce plan = each_phase plan (λ p. nat_le (minimum_gap plan p) (passage plan p))

-- both maximum greens of p are at least its minimum green; all three are in seconds
abbrev pub reaches_minimum : Plan → ℕ → Bool
reaches_minimum plan p =
    nat_le (plan.value PhaseMinimumGreen p) (plan.value PhaseMaximum1 p) &&
    nat_le (plan.value PhaseMinimumGreen p) (plan.value PhaseMaximum2 p)

-- K10: phaseMaximum1 and phaseMaximum2 of each phase are at least its phaseMinimumGreen
abbrev pub maximums_reach_minimums : Plan → Bool
maximums_reach_minimums plan = each_phase plan (reaches_minimum plan)

-- p has a walk time: phaseWalk, in seconds, is over 0
abbrev pub has_walk : Plan → ℕ → Bool
has_walk plan p = nat_le 1 (plan.value PhaseWalk p)

-- K11: each phase with phasePedRecall has phaseWalk over 0
abbrev pub recalled_pedestrians_walk : Plan → Bool
recalled_pedestrians_walk plan = each_phase plan (λ p. not (has_pedestrian_recall plan p) || has_walk plan p)

-- none, or one that passes a test
abbrev pub none_or : (ℕ → Bool) → Option ℕ → Bool
none_or test None = true
none_or test (Some p) = test p

-- K12: each vehicle detector calls none or an enabled phase
abbrev pub detectors_call_phases : Plan → Bool
detectors_call_phases plan =
    list_all (λ d. none_or (is_enabled plan) (call_phase plan d)) (run_from 1 plan.counts.vehicle_detectors)

-- p is enabled and has a walk time
abbrev pub serves_pedestrians : Plan → ℕ → Bool
serves_pedestrians plan p = is_enabled plan p && has_walk plan p

-- K13: each pedestrian detector calls none or an enabled phase with phaseWalk over 0
abbrev pub pedestrian_detectors_call_walks : Plan → Bool
pedestrian_detectors_call_walks plan =
    list_all (λ d. none_or (serves_pedestrians plan) (pedestrian_call_phase plan d)) (run_from 1 plan.counts.pedestrian_detectors)

-- each phase that a list names is enabled
abbrev pub names_enabled : Plan → ℕ → Bool
names_enabled plan list = list_all (λ p. not (names list p) || is_enabled plan p) (phases plan)

-- K14: the included phases of each overlap are enabled
abbrev pub included_phases_are_enabled : Plan → Bool
included_phases_are_enabled plan =
    list_all (λ o. names_enabled plan (plan.value OverlapIncludedPhases o)) (run_from 1 plan.counts.overlaps)

-- p is concurrent with each other phase that a list names
abbrev pub goes_with_all : Plan → ℕ → ℕ → Bool
goes_with_all plan list p = list_all (λ q. not (names list q) || (p == q || is_concurrent plan p q)) (phases plan)

-- a list names only enabled phases, pairwise concurrent: all may be in service at one time
abbrev pub names_concurrent : Plan → ℕ → Bool
names_concurrent plan list = list_all (λ p. not (names list p) || (is_enabled plan p && goes_with_all plan list p)) (phases plan)

-- the list that object o has for preempt n names only such phases
abbrev pub names_concurrent_at : Plan → Object → ℕ → Bool
names_concurrent_at plan o n = names_concurrent plan (plan.value o n)

-- the track, dwell and exit lists of preempt n each name only such phases
abbrev pub has_concurrent_lists : Plan → ℕ → Bool
has_concurrent_lists plan n =
    names_concurrent_at plan PreemptTrackPhase n && (names_concurrent_at plan PreemptDwellPhase n && names_concurrent_at plan PreemptExitPhase n)

-- K15: each list of each preempt names only enabled phases, pairwise concurrent
abbrev pub preempts_are_concurrent : Plan → Bool
preempts_are_concurrent plan = list_all (has_concurrent_lists plan) (run_from 1 plan.counts.preempts)

-- preempt n has a dwell phase, or neither a track phase nor an exit phase
abbrev pub dwells_or_is_empty : Plan → ℕ → Bool
dwells_or_is_empty plan n =
    not (plan.value PreemptDwellPhase n == 0) || (plan.value PreemptTrackPhase n == 0 && plan.value PreemptExitPhase n == 0)

-- K16: a preempt with an empty dwell list has empty track and exit lists
abbrev pub preempts_dwell : Plan → Bool
preempts_dwell plan = list_all (dwells_or_is_empty plan) (run_from 1 plan.counts.preempts)

-- the modifier phases of overlap o are enabled, and there are none where it is normal
abbrev pub modifies_rightly : Plan → ℕ → Bool
modifies_rightly plan o =
    names_enabled plan (plan.value OverlapModifierPhases o)
    && (not (plan.value OverlapType o == 0) || plan.value OverlapModifierPhases o == 0)

-- K21: the modifier phases of each overlap are enabled, and there are none where it is normal
abbrev pub modifiers_are_right : Plan → Bool
modifiers_are_right plan = list_all (modifies_rightly plan) (run_from 1 plan.counts.overlaps)

-- no phase of a plan passes a test but t
abbrev pub only_passes : Plan → (ℕ → Bool) → ℕ → Bool
only_passes plan test t = list_all (λ p. not (test p) || p == t) (phases plan)

-- t, the first modifier phase of overlap o, is there and is the only one; the overlap does not include it, and it is
-- concurrent with no phase that the overlap includes
abbrev pub turns_alone : Plan → ℕ → Option ℕ → Bool
turns_alone plan o None = false
turns_alone plan o (Some t) =
    only_passes plan (is_modifier plan o) t
    && list_all (λ p. not (is_included plan o p) || (not (p == t) && not (is_concurrent plan t p))) (phases plan)

-- overlap o, where it is of type 2, includes a phase, and has one modifier phase, which goes with none that it includes
abbrev pub points_rightly : Plan → ℕ → Bool
points_rightly plan o =
    not (plan.value OverlapType o == 2)
    || (not (includes_none plan o) && turns_alone plan o (first (is_modifier plan o) (phases plan)))

-- K28: an overlap of type 2, an arrow, includes a phase, and has one modifier phase, which it does not include and which
-- is concurrent with no phase that it includes
abbrev pub arrows_are_right : Plan → Bool
arrows_are_right plan = list_all (points_rightly plan) (run_from 1 plan.counts.overlaps)

-- the trailing yellow of overlap o is 0 or at least 30 tenths of a second; where it has a trailing green the yellow is not
-- 0, and its type is 0
abbrev pub trails_rightly : Plan → ℕ → Bool
trails_rightly plan o =
    (trail_yellow plan o == 0 || nat_le 30 (trail_yellow plan o))
    && (plan.value OverlapTrailGreen o == 0 || (not (trail_yellow plan o == 0) && plan.value OverlapType o == 0))

-- K29: overlapTrailYellow of each overlap is 0 or at least 30 tenths of a second; one with overlapTrailGreen has a yellow
-- that is not 0, and type 0
abbrev pub trails_are_right : Plan → Bool
trails_are_right plan = list_all (trails_rightly plan) (run_from 1 plan.counts.overlaps)

-- K22: phaseDynamicMaxLimit of each phase is 0 or at least its phaseMinimumGreen
abbrev pub limits_reach_minimums : Plan → Bool
limits_reach_minimums plan = each_phase plan (λ p. dynamic_maximum_limit plan p == 0 || nat_le (minimum_green plan p) (dynamic_maximum_limit plan p))

-- that rule, unless its test is passed; then what follows
abbrev pub unless : Bool → Rule → Option Rule → Option Rule
unless false r next = Some r
unless true r next = next

-- the first rule that the plan breaks of K1 to K7, on rings, sides and sequences
unfoldable pub broken_by_rings : Plan → Option Rule
broken_by_rings plan =
    unless (some_enabled plan) K1
    (unless (are_placed plan) K2
    (unless (unused_lists_are_empty plan) K3
    (unless (lists_name_across_rings plan) K4
    (unless (concurrency_is_symmetric plan) K5
    (unless (first_sequence_is_ordered plan) K6
    (unless (other_sequences_are_ordered plan) K7
    None))))))

-- the first of K8 to K13, on times and calls of phases
unfoldable pub broken_by_phases : Plan → Option Rule
broken_by_phases plan =
    unless (yellows_are_long plan) K8
    (unless (gaps_can_reduce plan) K9
    (unless (maximums_reach_minimums plan) K10
    (unless (recalled_pedestrians_walk plan) K11
    (unless (detectors_call_phases plan) K12
    (unless (pedestrian_detectors_call_walks plan) K13
    None)))))

-- the first of K14 to K20, on overlaps, preempts and patterns
unfoldable pub broken_by_parts : Plan → Option Rule
broken_by_parts plan =
    unless (included_phases_are_enabled plan) K14
    (unless (preempts_are_concurrent plan) K15
    (unless (preempts_dwell plan) K16
    (unless (patterns_are_whole plan) K17
    (unless (splits_hold_phases plan) K18
    (unless (splits_fill_cycles plan) K19
    (unless (coordinated_phases_agree plan) K20
    None))))))

-- the first of K21 to K23, on what plan texts of version 2 alone can give
unfoldable pub broken_by_extensions : Plan → Option Rule
broken_by_extensions plan =
    unless (modifiers_are_right plan) K21
    (unless (limits_reach_minimums plan) K22
    (unless (permissive_times_end plan) K23
    None))

-- the first of K24 to K27, on the schedule, which plan texts of version 3 alone can give
unfoldable pub broken_by_schedule : Plan → Option Rule
broken_by_schedule plan =
    unless (events_are_apart plan) K24
    (unless (day_plans_have_events plan) K25
    (unless (actions_are_defined plan) K26
    (unless (asked_patterns_are_used plan) K27
    None)))

-- the first of K28 and K29, on arrows and overlaps that trail, which plan texts of version 3 alone can give
unfoldable pub broken_by_overlaps : Plan → Option Rule
broken_by_overlaps plan =
    unless (arrows_are_right plan) K28
    (unless (trails_are_right plan) K29
    None)

-- the first, or where there is none the second
abbrev pub or_rule : Option Rule → Option Rule → Option Rule
or_rule (Some r) next = Some r
or_rule None next = next

-- the first rule that the plan breaks, by number
unfoldable pub first_broken : Plan → Option Rule
first_broken plan =
    or_rule (broken_by_rings plan)
    (or_rule (broken_by_phases plan)
    (or_rule (broken_by_parts plan)
    (or_rule (broken_by_extensions plan)
    (or_rule (broken_by_schedule plan)
    (broken_by_overlaps plan)))))

-- what a check of a plan answers: that it is consistent, or the first rule that it breaks
abbrev pub or_broken : Option Rule → Result (Unit {0}) Rule
or_broken None = Ok tt
or_broken (Some r) = Err r
