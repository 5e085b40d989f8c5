-- Rules K1 to K5, K8 to K14, K16, K21 and K22 are met exactly where none of the ways to break them is anywhere.
use Rattle.std.proofs.Common.{◌≡◌, ◌∙◌, ℕ, ◌==◌, nat_le, Bool, true, false, not, ◌&&◌, ◌||◌, Option, Some, None, refl, ap}
use Rattle.std.proofs.Math.Bool.{not-not}
use Rattle.std.specs.List.{list_all}
use Rattle.tsb_plan.specs.declared.object.Object.{Object}
use Rattle.tsb_plan.specs.declared.object.Object.TheVariants.{PhaseMinimumGreen, PhaseMaximum1, PhaseMaximum2, OverlapIncludedPhases, OverlapModifierPhases, OverlapType, PreemptTrackPhase, PreemptDwellPhase, PreemptExitPhase, PhaseConcurrency}
use Rattle.tsb_plan.specs.Parts.{call_phase, pedestrian_call_phase}
use Rattle.tsb_plan.specs.Plan.{Plan, is_enabled, has_pedestrian_recall, ring_of, side_of, is_concurrent, minimum_green, minimum_gap, passage, yellow_change, dynamic_maximum_limit}
use Rattle.tsb_rules.specs.PatternRules.{some_and}
use Rattle.tsb_rules.specs.Rules.{some_enabled, are_placed, is_placed, unused_lists_are_empty, may_be_concurrent, names_across_rings, lists_name_across_rings, is_named_back, concurrency_is_symmetric, yellows_are_long, gaps_can_reduce, maximums_reach_minimums, reaches_minimum, has_walk, recalled_pedestrians_walk, none_or, detectors_call_phases, serves_pedestrians, pedestrian_detectors_call_walks, names_enabled, included_phases_are_enabled, dwells_or_is_empty, preempts_dwell, modifies_rightly, modifiers_are_right, limits_reach_minimums}
use Rattle.tsb_types.specs.declared.limits.TheConstants.{OVERLAPS, PEDESTRIAN_DETECTORS, PREEMPTS, VEHICLE_DETECTORS}
use Rattle.tsb_types.specs.Lists.{run_from}
use Rattle.tsb_types.specs.Sets.{names}
use Rattle.tsb_breaches.specs.declared.fault.RuleFault.TheVariants.{K1, K2Ring, K2Side, K3, K4Unused, K4Ring, K4Side, K5, K8, K9, K10Maximum1, K10Maximum2, K11, K12, K13Unused, K13Walk, K14, K16Track, K16Exit, K21Unused, K21Type, K22}
use Rattle.tsb_breaches.specs.Laws.{of_values}
use Rattle.tsb_breaches.specs.Lists.{calls_unused, button_calls_unused, button_calls_no_walk, is_unused, has_no_walk, lists_unused, has_no_dwell, modifies_nothing}
use Rattle.tsb_breaches.specs.Phases.{has_no_ring, has_no_side, keeps_list, names_unused, names_same_ring, names_other_side, is_not_named_back, has_short_yellow, has_long_gap, is_under_minimum, recalls_no_walk, has_low_limit}
use Rattle.tsb_breaches.proofs.AllLemmas.{all-same, all-under, and-both, both-are, not-below}
use Rattle.tsb_breaches.proofs.NoneLemmas.{none_at, none_up_to, none-detector, none-overlap, none-overlap_phase, none-pedestrian_detector, none-phase, none-phases, none-preempt, none-unit}

-- ## K1 to K5

pub met-1 : (plan : Plan) → none_at plan K1 ≡ some_enabled plan
met-1 plan = none-unit plan K1 ∙ not-not (some_enabled plan)

two-under : (e a b : Bool) → (not (e && not a) && not (e && not b)) ≡ (not e || (a && b))
two-under false a b = refl
two-under true true true = refl
two-under true true false = refl
two-under true false b = refl

pub met-2 : (v : Object → ℕ → ℕ) → (none_at (of_values v) K2Ring && none_at (of_values v) K2Side) ≡ are_placed (of_values v)
met-2 v =
    let plan : Plan = of_values v in
    and-both (none-phase plan K2Ring) (none-phase plan K2Side)
    ∙ both-are (λ p. not (has_no_ring plan p)) (λ p. not (has_no_side plan p)) (λ p. not (is_enabled plan p) || is_placed plan p)
    (λ p. two-under (is_enabled plan p) (ring_of plan p == 1 || ring_of plan p == 2) (nat_le 1 (side_of plan p) && nat_le (side_of plan p) 4)) (run_from 1 16)

neither : (a b : Bool) → not (not a && not b) ≡ (a || b)
neither true b = refl
neither false true = refl
neither false false = refl

pub met-3 : (v : Object → ℕ → ℕ) → none_at (of_values v) K3 ≡ unused_lists_are_empty (of_values v)
met-3 v =
    let plan : Plan = of_values v in
    none-phase plan K3
    ∙ all-same (λ p. not (keeps_list plan p)) (λ p. is_enabled plan p || plan.value PhaseConcurrency p == 0)
    (λ p. neither (is_enabled plan p) (plan.value PhaseConcurrency p == 0)) (run_from 1 16)

across : (e c u r s : Bool) →
    (not ((e && c) && not u) && (not ((e && c) && (u && r)) && not ((e && c) && (u && (not r && not s))))) ≡ (not e || (not c || (u && (not r && s))))
across false c u r s = refl
across true false u r s = refl
across true true false r s = refl
across true true true true s = refl
across true true true false true = refl
across true true true false false = refl

pub met-4 : (v : Object → ℕ → ℕ) →
    (none_at (of_values v) K4Unused && (none_at (of_values v) K4Ring && none_at (of_values v) K4Side)) ≡ lists_name_across_rings (of_values v)
met-4 v =
    let plan : Plan = of_values v in
    let a : ℕ → Bool = λ p. none_up_to 16 (names_unused plan p) in
    let b : ℕ → Bool = λ p. none_up_to 16 (names_same_ring plan p) in
    let c : ℕ → Bool = λ p. none_up_to 16 (names_other_side plan p) in
    let named : ℕ → ℕ → Bool = λ p q. not (is_concurrent plan p q) || may_be_concurrent plan p q in
    let under : (p : ℕ) → (a p && (b p && c p)) ≡ (not (is_enabled plan p) || names_across_rings plan p) =
    λ p. (
    ap (λ x. a p && x) (both-are (λ q. not (names_same_ring plan p q)) (λ q. not (names_other_side plan p q)) (λ q. not (names_same_ring plan p q) && not (names_other_side plan p q)) (λ q. refl) (run_from 1 16))
    ∙ both-are (λ q. not (names_unused plan p q)) (λ q. not (names_same_ring plan p q) && not (names_other_side plan p q)) (λ q. not (is_enabled plan p) || named p q)
    (λ q. across (is_enabled plan p) (is_concurrent plan p q) (is_enabled plan q) (ring_of plan p == ring_of plan q) (side_of plan p == side_of plan q)) (run_from 1 16)
    ∙ all-under (is_enabled plan p) (named p) (run_from 1 16)) in
    and-both (none-phases plan K4Unused) (and-both (none-phases plan K4Ring) (none-phases plan K4Side))
    ∙ ap (λ x. list_all a (run_from 1 16) && x) (both-are b c (λ p. b p && c p) (λ p. refl) (run_from 1 16))
    ∙ both-are a (λ p. b p && c p) (λ p. not (is_enabled plan p) || names_across_rings plan p) under (run_from 1 16)

pub implied : (a b : Bool) → not (a && not b) ≡ (not a || b)
implied true b = not-not b
implied false b = refl

pub met-5 : (v : Object → ℕ → ℕ) → none_at (of_values v) K5 ≡ concurrency_is_symmetric (of_values v)
met-5 v =
    let plan : Plan = of_values v in
    none-phases plan K5
    ∙ all-same (λ p. none_up_to 16 (is_not_named_back plan p)) (is_named_back plan)
    (λ p. all-same (λ q. not (is_not_named_back plan p q)) (λ q. not (is_concurrent plan p q) || is_concurrent plan q p)
    (λ q. implied (is_concurrent plan p q) (is_concurrent plan q p)) (run_from 1 16)) (run_from 1 16)

-- ## K8 to K11 and K22

pub one-under : (e a b : Bool) → not a ≡ b → not (e && a) ≡ (not e || b)
one-under false a b is = refl
one-under true a b is = is

pub met-8 : (v : Object → ℕ → ℕ) → none_at (of_values v) K8 ≡ yellows_are_long (of_values v)
met-8 v =
    let plan : Plan = of_values v in
    none-phase plan K8
    ∙ all-same (λ p. not (has_short_yellow plan p)) (λ p. not (is_enabled plan p) || nat_le 30 (yellow_change plan p))
    (λ p. one-under (is_enabled plan p) _ _ (not-below (yellow_change plan p) 30)) (run_from 1 16)

pub met-9 : (v : Object → ℕ → ℕ) → none_at (of_values v) K9 ≡ gaps_can_reduce (of_values v)
met-9 v =
    let plan : Plan = of_values v in
    none-phase plan K9
    ∙ all-same (λ p. not (has_long_gap plan p)) (λ p. not (is_enabled plan p) || nat_le (minimum_gap plan p) (passage plan p))
    (λ p. one-under (is_enabled plan p) _ _ (not-below (passage plan p) (minimum_gap plan p))) (run_from 1 16)

both-under : (e a b c d : Bool) → not a ≡ c → not b ≡ d → (not (e && a) && not (e && b)) ≡ (not e || (c && d))
both-under false a b c d first second = refl
both-under true a b c d first second = and-both first second

pub met-10 : (v : Object → ℕ → ℕ) → (none_at (of_values v) K10Maximum1 && none_at (of_values v) K10Maximum2) ≡ maximums_reach_minimums (of_values v)
met-10 v =
    let plan : Plan = of_values v in
    and-both (none-phase plan K10Maximum1) (none-phase plan K10Maximum2)
    ∙ both-are (λ p. not (is_under_minimum plan PhaseMaximum1 p)) (λ p. not (is_under_minimum plan PhaseMaximum2 p)) (λ p. not (is_enabled plan p) || reaches_minimum plan p)
    (λ p. both-under (is_enabled plan p) _ _ _ _ (not-below (v PhaseMaximum1 p) (v PhaseMinimumGreen p)) (not-below (v PhaseMaximum2 p) (v PhaseMinimumGreen p))) (run_from 1 16)

pub met-11 : (v : Object → ℕ → ℕ) → none_at (of_values v) K11 ≡ recalled_pedestrians_walk (of_values v)
met-11 v =
    let plan : Plan = of_values v in
    none-phase plan K11
    ∙ all-same (λ p. not (recalls_no_walk plan p)) (λ p. not (is_enabled plan p) || (not (has_pedestrian_recall plan p) || has_walk plan p))
    (λ p. one-under (is_enabled plan p) _ _ (implied (has_pedestrian_recall plan p) (has_walk plan p))) (run_from 1 16)

pub unless-zero : (z a b : Bool) → not a ≡ b → not (not z && a) ≡ (z || b)
unless-zero true a b is = refl
unless-zero false a b is = is

pub met-22 : (v : Object → ℕ → ℕ) → none_at (of_values v) K22 ≡ limits_reach_minimums (of_values v)
met-22 v =
    let plan : Plan = of_values v in
    none-phase plan K22
    ∙ all-same (λ p. not (has_low_limit plan p)) (λ p. not (is_enabled plan p) || (dynamic_maximum_limit plan p == 0 || nat_le (minimum_green plan p) (dynamic_maximum_limit plan p)))
    (λ p. one-under (is_enabled plan p) _ _ (unless-zero (dynamic_maximum_limit plan p == 0) _ _ (not-below (dynamic_maximum_limit plan p) (minimum_green plan p)))) (run_from 1 16)

-- ## K12 to K14

pub met-12 : (v : Object → ℕ → ℕ) → none_at (of_values v) K12 ≡ detectors_call_phases (of_values v)
met-12 v =
    let plan : Plan = of_values v in
    none-detector plan K12
    ∙ all-same (λ d. not (calls_unused plan d)) (λ d. none_or (is_enabled plan) (call_phase plan d)) (λ d. used plan (call_phase plan d)) (run_from 1 VEHICLE_DETECTORS)
  where
    used : (plan : Plan) (o : Option ℕ) → not (some_and (is_unused plan) o) ≡ none_or (is_enabled plan) o
    used plan None = refl
    used plan (Some p) = not-not (is_enabled plan p)

pub met-13 : (v : Object → ℕ → ℕ) → (none_at (of_values v) K13Unused && none_at (of_values v) K13Walk) ≡ pedestrian_detectors_call_walks (of_values v)
met-13 v =
    let plan : Plan = of_values v in
    and-both (none-pedestrian_detector plan K13Unused) (none-pedestrian_detector plan K13Walk)
    ∙ both-are (λ d. not (button_calls_unused plan d)) (λ d. not (button_calls_no_walk plan d)) (λ d. none_or (serves_pedestrians plan) (pedestrian_call_phase plan d))
    (λ d. serves plan (pedestrian_call_phase plan d)) (run_from 1 PEDESTRIAN_DETECTORS)
  where
    walks : (e w : Bool) → (not (not e) && not (e && not w)) ≡ (e && w)
    walks true w = not-not w
    walks false w = refl

    serves : (plan : Plan) (o : Option ℕ) → (not (some_and (is_unused plan) o) && not (some_and (has_no_walk plan) o)) ≡ none_or (serves_pedestrians plan) o
    serves plan None = refl
    serves plan (Some p) = walks (is_enabled plan p) (has_walk plan p)

-- the list of an object names enabled phases alone
pub all-enabled : (v : Object → ℕ → ℕ) (o : Object) (i : ℕ) → none_up_to 16 (lists_unused (of_values v) o i) ≡ names_enabled (of_values v) (v o i)
all-enabled v o i =
    let plan : Plan = of_values v in
    all-same (λ p. not (lists_unused plan o i p)) (λ p. not (names (v o i) p) || is_enabled plan p) (λ p. implied (names (v o i) p) (is_enabled plan p)) (run_from 1 16)

pub met-14 : (v : Object → ℕ → ℕ) → none_at (of_values v) K14 ≡ included_phases_are_enabled (of_values v)
met-14 v =
    let plan : Plan = of_values v in
    none-overlap_phase plan K14
    ∙ all-same (λ o. none_up_to 16 (lists_unused plan OverlapIncludedPhases o)) (λ o. names_enabled plan (v OverlapIncludedPhases o)) (all-enabled v OverlapIncludedPhases) (run_from 1 OVERLAPS)

-- ## K16 and K21

pub met-16 : (v : Object → ℕ → ℕ) → (none_at (of_values v) K16Track && none_at (of_values v) K16Exit) ≡ preempts_dwell (of_values v)
met-16 v =
    let plan : Plan = of_values v in
    and-both (none-preempt plan K16Track) (none-preempt plan K16Exit)
    ∙ both-are (λ m. not (has_no_dwell plan PreemptTrackPhase m)) (λ m. not (has_no_dwell plan PreemptExitPhase m)) (dwells_or_is_empty plan)
    (λ m. two-under (v PreemptDwellPhase m == 0) (v PreemptTrackPhase m == 0) (v PreemptExitPhase m == 0)) (run_from 1 PREEMPTS)

pub met-21 : (v : Object → ℕ → ℕ) → (none_at (of_values v) K21Unused && none_at (of_values v) K21Type) ≡ modifiers_are_right (of_values v)
met-21 v =
    let plan : Plan = of_values v in
    and-both (none-overlap_phase plan K21Unused) (none-overlap plan K21Type)
    ∙ both-are (λ o. none_up_to 16 (lists_unused plan OverlapModifierPhases o)) (λ o. not (modifies_nothing plan o)) (modifies_rightly plan)
    (λ o. and-both (all-enabled v OverlapModifierPhases o) (implied (v OverlapType o == 0) (v OverlapModifierPhases o == 0))) (run_from 1 OVERLAPS)
