-- Mistakes in rules, each with a plan that it would let pass and what then is no longer so of every plan. The plans are
-- the built-in one of eight phases with a few values changed.
use Rattle.std.specs.Prelude.{◌≡◌, ℕ, nat_le, ◌==◌, Bool, true, false, not, ◌&&◌, ◌||◌, [], ◌∷◌, Option, Some, None, refl}
use Rattle.std.specs.List.{list_all}
use Rattle.tsb_plan.specs.declared.object.Object.TheVariants.{OverlapIncludedPhases, OverlapModifierPhases, OverlapTrailGreen, OverlapTrailYellow, OverlapType, PhaseConcurrency, PatternLeadLag, PatternOffsetTime, PatternPermissiveTime, PreemptTrackPhase, PreemptDwellPhase, PreemptExitPhase, SequenceData, SplitCoordPhase}
use Rattle.tsb_types.specs.Lists.{among, first, run_from}
use Rattle.tsb_plan.specs.Parts.{cycle, includes_none, is_coordinated, is_dwell_phase, is_included, is_modifier, leads_and_lags, offset, permissive_time, sequence_of, split_of, trail_yellow}
use Rattle.tsb_plan.specs.Plan.{Plan, is_concurrent, phases, sequence, with_value, with_values}
use Rattle.tsb_plan.specs.Quad.{quad}
use Rattle.tsb_rules.specs.declared.rules.Rule.{Rule}
use Rattle.tsb_rules.specs.declared.rules.Rule.TheVariants.{K1, K2, K3, K4, K5, K6, K7, K14, K15, K16, K17, K18, K19, K20, K21, K22, K23, K28, K29}
use Rattle.tsb_rules.specs.PatternRules.{agrees_with_all, coordinated_agree, coordinated_count, coordinated_phases_agree, each_pattern, has_coordinated, may_coordinate, names_sequence, names_split, patterns_are_whole, some_and, split_end, split_sum, side_sum, splits_fill_cycles, splits_hold_phases}
use Rattle.tsb_rules.specs.Rules.{are_placed, arrows_are_right, broken_by_extensions, broken_by_parts, broken_by_phases, broken_by_rings, broken_by_schedule, broken_by_overlaps, concurrency_is_symmetric, first_broken, included_phases_are_enabled, limits_reach_minimums, lists_name_across_rings, modifiers_are_right, names_enabled, only_passes, or_rule, preempts_are_concurrent, preempts_dwell, some_enabled, trails_are_right, unless, unused_lists_are_empty}
use Rattle.tsb_rules.specs.SequenceRules.{first_sequence_is_ordered, lists_once, lists_only, other_sequences_are_ordered, rises, zeros_last}

-- what a computed line opens
unfoldable pub opened : Unit {0}
unfolding quad run_from first_broken broken_by_rings broken_by_phases broken_by_parts broken_by_extensions broken_by_schedule broken_by_overlaps split_sum side_sum split_end coordinated_count
opened = tt

-- the first rule that a plan breaks, with these tests in place of K5 and K6
abbrev pub broken_with_rings : (Plan → Bool) → (Plan → Bool) → Plan → Option Rule
broken_with_rings symmetry first plan =
    or_rule
    (unless (some_enabled plan) K1
    (unless (are_placed plan) K2
    (unless (unused_lists_are_empty plan) K3
    (unless (lists_name_across_rings plan) K4
    (unless (symmetry plan) K5
    (unless (first plan) K6
    (unless (other_sequences_are_ordered plan) K7
    None)))))))
    (or_rule (broken_by_phases plan)
    (or_rule (broken_by_parts plan)
    (broken_by_extensions plan)))

-- and with these in place of K15, K17 and K20
abbrev pub broken_with_parts : (Plan → Bool) → (Plan → Bool) → (Plan → Bool) → Plan → Option Rule
broken_with_parts concurrent whole agree plan =
    or_rule (broken_by_rings plan)
    (or_rule (broken_by_phases plan)
    (or_rule
    (unless (included_phases_are_enabled plan) K14
    (unless (concurrent plan) K15
    (unless (preempts_dwell plan) K16
    (unless (whole plan) K17
    (unless (splits_hold_phases plan) K18
    (unless (splits_fill_cycles plan) K19
    (unless (agree plan) K20
    None)))))))
    (broken_by_extensions plan)))

-- and with this one in place of K23
abbrev pub broken_with_times : (Plan → Bool) → Plan → Option Rule
broken_with_times ends plan =
    or_rule (broken_by_rings plan)
    (or_rule (broken_by_phases plan)
    (or_rule (broken_by_parts plan)
    (unless (modifiers_are_right plan) K21
    (unless (limits_reach_minimums plan) K22
    (unless (ends plan) K23
    None)))))

-- and with these in place of K28 and K29
abbrev pub broken_with_overlaps : (Plan → Bool) → (Plan → Bool) → Plan → Option Rule
broken_with_overlaps points trail plan =
    or_rule (broken_by_rings plan)
    (or_rule (broken_by_phases plan)
    (or_rule (broken_by_parts plan)
    (or_rule (broken_by_extensions plan)
    (or_rule (broken_by_schedule plan)
    (unless (points plan) K28
    (unless (trail plan) K29
    None))))))

-- ## A plan that breaks no rule: its second pattern begins 40 seconds later

unfoldable pub in_step : Plan
in_step = with_value quad PatternOffsetTime 2 40

breaks_none : first_broken in_step ≡ None
unfolding opened in_step
breaks_none = refl

-- ## K5 is left out: phase 5 does not name phase 1, which names it

abbrev pub without_symmetry : Plan → Option Rule
without_symmetry plan = broken_with_rings (λ p. true) first_sequence_is_ordered plan

unfoldable pub one_list : Plan
one_list = with_value quad PhaseConcurrency 5 2

breaks_K5 : first_broken one_list ≡ Some K5
unfolding opened one_list
breaks_K5 = refl

would_pass_one_list : without_symmetry one_list ≡ None
unfolding opened one_list
would_pass_one_list = refl

names_5 : is_concurrent one_list 1 5 ≡ true
unfolding opened one_list
names_5 = refl

names_not_1 : is_concurrent one_list 5 1 ≡ false
unfolding opened one_list
names_not_1 = refl

-- ## K6 does not ask for each phase of a ring: sequence 1 leaves out phase 4

abbrev pub is_ordered_in_part : Plan → ℕ → Bool
is_ordered_in_part plan r =
    lists_only plan r (sequence plan 1 r) && (lists_once (sequence plan 1 r) && (rises plan (sequence plan 1 r) && zeros_last (sequence plan 1 r)))

abbrev pub with_sequence_in_part : Plan → Option Rule
with_sequence_in_part plan = broken_with_rings concurrency_is_symmetric (λ p. is_ordered_in_part p 1 && is_ordered_in_part p 2) plan

unfoldable pub without_4 : Plan
without_4 = with_value quad SequenceData 4 0

breaks_K6 : first_broken without_4 ≡ Some K6
unfolding opened without_4
breaks_K6 = refl

would_pass_without_4 : with_sequence_in_part without_4 ≡ None
unfolding opened without_4
would_pass_without_4 = refl

lists_not_4 : among 4 (sequence without_4 1 1) ≡ false
unfolding opened without_4
lists_not_4 = refl

-- ## K15 asks only that what a preempt's list names is enabled: preempt 1 dwells in phases 2 and 4 of one ring

abbrev pub lists_enabled : Plan → ℕ → Bool
lists_enabled plan n =
    names_enabled plan (plan.value PreemptTrackPhase n) && (names_enabled plan (plan.value PreemptDwellPhase n) && names_enabled plan (plan.value PreemptExitPhase n))

abbrev pub with_enabled_lists : Plan → Option Rule
with_enabled_lists plan = broken_with_parts (λ p. list_all (lists_enabled p) (run_from 1 4)) patterns_are_whole coordinated_phases_agree plan

unfoldable pub wants_2_4 : Plan
wants_2_4 = with_value quad PreemptDwellPhase 1 10

breaks_K15 : first_broken wants_2_4 ≡ Some K15
unfolding opened wants_2_4
breaks_K15 = refl

would_pass_wants_2_4 : with_enabled_lists wants_2_4 ≡ None
unfolding opened wants_2_4
would_pass_wants_2_4 = refl

dwells_in_both : is_dwell_phase wants_2_4 1 2 && is_dwell_phase wants_2_4 1 4 ≡ true
unfolding opened wants_2_4
dwells_in_both = refl

apart_2_4 : is_concurrent wants_2_4 2 4 ≡ false
unfolding opened wants_2_4
apart_2_4 = refl

-- ## K17 lets an offset be the cycle itself

abbrev pub is_whole_or_at : Plan → ℕ → Bool
is_whole_or_at plan n = nat_le (offset plan n) (cycle plan n) && (names_split plan n && names_sequence plan n)

abbrev pub with_offset_of_cycle : Plan → Option Rule
with_offset_of_cycle plan = broken_with_parts preempts_are_concurrent (λ p. each_pattern p (is_whole_or_at p)) coordinated_phases_agree plan

unfoldable pub late : Plan
late = with_value quad PatternOffsetTime 2 80

breaks_K17 : first_broken late ≡ Some K17
unfolding opened late
breaks_K17 = refl

would_pass_late : with_offset_of_cycle late ≡ None
unfolding opened late
would_pass_late = refl

is_the_cycle : offset late 2 ≡ cycle late 2
unfolding opened late
is_the_cycle = refl

-- ## K20 does not ask for a coordinated phase in each ring: ring 2 has none

abbrev pub coordinates_alone : Plan → Bool → ℕ → ℕ → ℕ → Bool
coordinates_alone plan apart s t p = may_coordinate plan t p && agrees_with_all plan apart s t p

abbrev pub agree_alone : Plan → Bool → ℕ → ℕ → Bool
agree_alone plan apart s t = has_coordinated plan t && list_all (λ p. not (is_coordinated plan t p) || coordinates_alone plan apart s t p) (phases plan)

abbrev pub with_one_ring : Plan → Option Rule
with_one_ring plan =
    broken_with_parts preempts_are_concurrent patterns_are_whole
    (λ p. each_pattern p (λ n. some_and (λ s. some_and (agree_alone p (leads_and_lags p n) s) (split_of p n)) (sequence_of p n))) plan

unfoldable pub one_ring : Plan
one_ring = with_value quad SplitCoordPhase 6 0

breaks_K20 : first_broken one_ring ≡ Some K20
unfolding opened one_ring
breaks_K20 = refl

would_pass_one_ring : with_one_ring one_ring ≡ None
unfolding opened one_ring
would_pass_one_ring = refl

none_in_ring_2 : coordinated_count one_ring 1 2 ≡ 0
unfolding opened one_ring
none_in_ring_2 = refl

-- ## K20 lets all patterns lead and lag: in ring 2 the coordinated phase comes before the other one of its side

abbrev pub with_ends_apart : Plan → Option Rule
with_ends_apart plan =
    broken_with_parts preempts_are_concurrent patterns_are_whole
    (λ p. each_pattern p (λ n. some_and (λ s. some_and (coordinated_agree p true s) (split_of p n)) (sequence_of p n))) plan

unfoldable pub led : Plan
led = with_values quad ((SequenceData, 17, 6) ∷ (SequenceData, 18, 5) ∷ [])

breaks_K20_led : first_broken led ≡ Some K20
unfolding opened led
breaks_K20_led = refl

would_pass_led : with_ends_apart led ≡ None
unfolding opened led
would_pass_led = refl

ends_at_40 : split_end led 1 1 2 ≡ 400
unfolding opened led
ends_at_40 = refl

ends_at_25 : split_end led 1 1 6 ≡ 250
unfolding opened led
ends_at_25 = refl

-- where both of its patterns lead and lag it breaks no rule
unfoldable pub both_lead : Plan
both_lead = with_values led ((PatternLeadLag, 1, 1) ∷ (PatternLeadLag, 2, 1) ∷ [])

both_may_end_apart : first_broken both_lead ≡ None
unfolding opened led both_lead
both_may_end_apart = refl

-- ## K20 reads lead and lag at the number of the split table: pattern 2 has table 1, and does not lead and lag

abbrev pub with_lead_of_table : Plan → Option Rule
with_lead_of_table plan =
    broken_with_parts preempts_are_concurrent patterns_are_whole
    (λ p. each_pattern p (λ n. some_and (λ s. some_and (λ t. coordinated_agree p (leads_and_lags p t) s t) (split_of p n)) (sequence_of p n))) plan

unfoldable pub first_leads : Plan
first_leads = with_value led PatternLeadLag 1 1

breaks_K20_second : first_broken first_leads ≡ Some K20
unfolding opened led first_leads
breaks_K20_second = refl

would_pass_first_leads : with_lead_of_table first_leads ≡ None
unfolding opened led first_leads
would_pass_first_leads = refl

second_does_not : leads_and_lags first_leads 2 ≡ false
unfolding opened led first_leads
second_does_not = refl

-- ## K23 lets a permissive time be the cycle itself, so each tick is at most that long behind any other

abbrev pub with_time_of_cycle : Plan → Option Rule
with_time_of_cycle plan = broken_with_times (λ p. each_pattern p (λ n. nat_le (permissive_time p n) (cycle p n))) plan

unfoldable pub always : Plan
always = with_value quad PatternPermissiveTime 2 80

breaks_K23 : first_broken always ≡ Some K23
unfolding opened always
breaks_K23 = refl

would_pass_always : with_time_of_cycle always ≡ None
unfolding opened always
would_pass_always = refl

is_always_permitted : permissive_time always 2 ≡ cycle always 2
unfolding opened always
is_always_permitted = refl

-- ## K28 lets the turn of an arrow be concurrent with an included phase: phase 5 turns, and phase 2 is included

-- an overlap of type 2 includes a phase, and its first modifier phase is as another test asks
abbrev pub arrows_with : (Plan → ℕ → Option ℕ → Bool) → Plan → Bool
arrows_with turns plan =
    list_all (λ o. not (plan.value OverlapType o == 2) || (not (includes_none plan o) && turns plan o (first (is_modifier plan o) (phases plan)))) (run_from 1 plan.counts.overlaps)

abbrev pub turns_beside : Plan → ℕ → Option ℕ → Bool
turns_beside plan o None = false
turns_beside plan o (Some t) =
    only_passes plan (is_modifier plan o) t && list_all (λ p. not (is_included plan o p) || not (p == t)) (phases plan)

abbrev pub with_turns_beside : Plan → Option Rule
with_turns_beside plan = broken_with_overlaps (arrows_with turns_beside) trails_are_right plan

-- overlap 2 is an arrow whose permissive phase is phase 2
abbrev pub with_arrow : ℕ → Plan
with_arrow turns = with_values quad ((OverlapType, 2, 2) ∷ (OverlapIncludedPhases, 2, 2) ∷ (OverlapModifierPhases, 2, turns) ∷ [])

-- with phase 1 as its turn it breaks no rule
unfoldable pub arrow : Plan
arrow = with_arrow 1

arrow_breaks_none : first_broken arrow ≡ None
unfolding opened arrow
arrow_breaks_none = refl

unfoldable pub beside : Plan
beside = with_arrow 16

breaks_K28 : first_broken beside ≡ Some K28
unfolding opened beside
breaks_K28 = refl

would_pass_beside : with_turns_beside beside ≡ None
unfolding opened beside
would_pass_beside = refl

turns_beside_2 : is_modifier beside 2 5 && (is_included beside 2 2 && is_concurrent beside 5 2) ≡ true
unfolding opened beside
turns_beside_2 = refl

-- ## K28 lets an arrow have two modifier phases, 1 and 3, the first as its turn

abbrev pub many_turns : Plan → ℕ → Option ℕ → Bool
many_turns plan o None = false
many_turns plan o (Some t) = list_all (λ p. not (is_included plan o p) || (not (p == t) && not (is_concurrent plan t p))) (phases plan)

abbrev pub with_many_turns : Plan → Option Rule
with_many_turns plan = broken_with_overlaps (arrows_with many_turns) trails_are_right plan

unfoldable pub two_turns : Plan
two_turns = with_arrow 5

breaks_K28_twice : first_broken two_turns ≡ Some K28
unfolding opened two_turns
breaks_K28_twice = refl

would_pass_two_turns : with_many_turns two_turns ≡ None
unfolding opened two_turns
would_pass_two_turns = refl

turns_with_3 : is_modifier two_turns 2 1 && is_modifier two_turns 2 3 ≡ true
unfolding opened two_turns
turns_with_3 = refl

-- ## K29 lets an overlap trail without a yellow: overlap 1 stays green for 3 s, and is red then

abbrev pub with_no_yellow : Plan → Option Rule
with_no_yellow plan =
    broken_with_overlaps arrows_are_right (λ p. list_all (λ o. trail_yellow p o == 0 || nat_le 30 (trail_yellow p o)) (run_from 1 p.counts.overlaps)) plan

abbrev pub with_trail : ℕ → Plan
with_trail yellow = with_values quad ((OverlapTrailGreen, 1, 3) ∷ (OverlapTrailYellow, 1, yellow) ∷ [])

-- with a yellow of 3 s it breaks no rule
unfoldable pub trail : Plan
trail = with_trail 30

trail_breaks_none : first_broken trail ≡ None
unfolding opened trail
trail_breaks_none = refl

unfoldable pub unlit : Plan
unlit = with_trail 0

breaks_K29 : first_broken unlit ≡ Some K29
unfolding opened unlit
breaks_K29 = refl

would_pass_unlit : with_no_yellow unlit ≡ None
unfolding opened unlit
would_pass_unlit = refl

has_no_yellow : trail_yellow unlit 1 ≡ 0
unfolding opened unlit
has_no_yellow = refl
