-- The first breach is of the first rule that is broken.
use Rattle.std.proofs.Common.{◌≡◌, ◌∙◌, ◌↔◌, ℕ, Bool, true, false, not, ◌&&◌, if◌then◌else◌, List, [], ◌∷◌, ◌++◌, flat_map, Option, None, refl, sym, ap}
use Rattle.std.specs.List.{list_all}
use Rattle.tsb_plan.specs.declared.object.Object.{Object}
use Rattle.tsb_plan.specs.Plan.{Plan}
use Rattle.tsb_rules.specs.declared.rules.Rule.{Rule}
use Rattle.tsb_rules.specs.declared.rules.Rule.TheVariants as rules
use Rattle.tsb_rules.specs.PatternRules.{coordinated_phases_agree, patterns_are_whole, permissive_times_end, splits_fill_cycles, splits_hold_phases}
use Rattle.tsb_rules.specs.Rules.{are_placed, arrows_are_right, broken_by_extensions, broken_by_overlaps, broken_by_parts, broken_by_phases, broken_by_rings, broken_by_schedule, concurrency_is_symmetric, detectors_call_phases, first_broken, gaps_can_reduce, included_phases_are_enabled, limits_reach_minimums, lists_name_across_rings, maximums_reach_minimums, modifiers_are_right, or_rule, pedestrian_detectors_call_walks, preempts_are_concurrent, preempts_dwell, recalled_pedestrians_walk, some_enabled, trails_are_right, unless, unused_lists_are_empty, yellows_are_long}
use Rattle.tsb_rules.specs.ScheduleRules.{actions_are_defined, asked_patterns_are_used, day_plans_have_events, events_are_apart}
use Rattle.tsb_rules.specs.SequenceRules.{first_sequence_is_ordered, other_sequences_are_ordered}
use Rattle.tsb_breaches.specs.declared.breach.Breach.{Breach}
use Rattle.tsb_breaches.specs.declared.fault.RuleFault.{RuleFault}
use Rattle.tsb_breaches.specs.declared.fault.RuleFault.TheVariants as at
use Rattle.tsb_review.specs.declared.place.Place.{Place}
use Rattle.tsb_breaches.specs.Breaches.{breaches, breaches_of, faults, found, is_at, rule_of, shape}
use Rattle.tsb_breaches.specs.Laws.{first_rule, of_values}
use Rattle.tsb_review.specs.Places.{places}
use Rattle.tsb_breaches.proofs.ArrowLaws.{met-28, met-29}
use Rattle.tsb_breaches.proofs.CoordinationLaws.{met-20}
use Rattle.tsb_breaches.proofs.NoneLemmas.{none_at}
use Rattle.tsb_breaches.proofs.PatternLaws.{met-17, met-18, met-19, met-23}
use Rattle.tsb_breaches.proofs.PhaseLaws.{met-1, met-2, met-3, met-4, met-5, met-8, met-9, met-10, met-11, met-12, met-13, met-14, met-16, met-21, met-22}
use Rattle.tsb_breaches.proofs.PreemptLaws.{met-15}
use Rattle.tsb_breaches.proofs.ScheduleLaws.{met-24, met-25, met-26, met-27}
use Rattle.tsb_breaches.proofs.SequenceLaws.{met-6, met-7}

-- ## The first breach

first-flat : (plan : Plan) (f : RuleFault) (ps : List Place) (rest : List Breach) →
    first_rule (flat_map (found plan f) ps ++ rest) ≡ unless (list_all (λ place. not (is_at plan f place)) ps) (rule_of f) (first_rule rest)
first-flat plan f [] rest = refl
first-flat plan f (p ∷ ps) rest = go (is_at plan f p) (first-flat plan f ps rest)
  where
    go : (b : Bool) → first_rule (flat_map (found plan f) ps ++ rest) ≡ unless (list_all (λ place. not (is_at plan f place)) ps) (rule_of f) (first_rule rest) →
        first_rule (((if b then (record { fault = f; place = p }) ∷ [] else []) ++ flat_map (found plan f) ps) ++ rest)
        ≡ unless (not b && list_all (λ place. not (is_at plan f place)) ps) (rule_of f) (first_rule rest)
    go true later = refl
    go false later = later

-- the rule of the first of these that is at some place
chain : Plan → List RuleFault → Option Rule
chain plan [] = None
chain plan (f ∷ fs) = unless (none_at plan f) (rule_of f) (chain plan fs)

first-chain : (plan : Plan) (fs : List RuleFault) → first_rule (flat_map (breaches_of plan) fs) ≡ chain plan fs
unfolding breaches_of chain
first-chain plan [] = refl
first-chain plan (f ∷ fs) = first-flat plan f (places (shape f)) (flat_map (breaches_of plan) fs) ∙ ap (unless (none_at plan f) (rule_of f)) (first-chain plan fs)

-- ## Rule by rule

unless-and : (a b : Bool) (r : Rule) (x : Option Rule) → unless a r (unless b r x) ≡ unless (a && b) r x
unless-and true b r x = refl
unless-and false b r x = refl

-- one more test of the same rule
join : (a b : Bool) (r : Rule) (x y : Option Rule) → y ≡ unless b r x → unless a r y ≡ unless (a && b) r x
join a b r x y same = ap (unless a r) same ∙ unless-and a b r x

-- a rule whose test is met as it should be
step : (a t : Bool) (r : Rule) (x y : Option Rule) → a ≡ t → (t ≡ true → x ≡ y) → unless a r x ≡ unless t r y
step a true r x y same later = ap (λ b. unless b r x) same ∙ later refl
step a false r x y same later = ap (λ b. unless b r x) same

or-unless : (b : Bool) (r : Rule) (next rest : Option Rule) → or_rule (unless b r next) rest ≡ unless b r (or_rule next rest)
or-unless true r next rest = refl
or-unless false r next rest = refl

-- the first rule that is broken, of those from a number on
from_29 : Plan → Option Rule
from_29 plan = unless (trails_are_right plan) rules.K29 None

from_28 : Plan → Option Rule
from_28 plan = unless (arrows_are_right plan) rules.K28 (from_29 plan)

from_27 : Plan → Option Rule
from_27 plan = unless (asked_patterns_are_used plan) rules.K27 (from_28 plan)

from_26 : Plan → Option Rule
from_26 plan = unless (actions_are_defined plan) rules.K26 (from_27 plan)

from_25 : Plan → Option Rule
from_25 plan = unless (day_plans_have_events plan) rules.K25 (from_26 plan)

from_24 : Plan → Option Rule
from_24 plan = unless (events_are_apart plan) rules.K24 (from_25 plan)

from_23 : Plan → Option Rule
from_23 plan = unless (permissive_times_end plan) rules.K23 (from_24 plan)

from_22 : Plan → Option Rule
from_22 plan = unless (limits_reach_minimums plan) rules.K22 (from_23 plan)

from_21 : Plan → Option Rule
from_21 plan = unless (modifiers_are_right plan) rules.K21 (from_22 plan)

from_20 : Plan → Option Rule
from_20 plan = unless (coordinated_phases_agree plan) rules.K20 (from_21 plan)

from_19 : Plan → Option Rule
from_19 plan = unless (splits_fill_cycles plan) rules.K19 (from_20 plan)

from_18 : Plan → Option Rule
from_18 plan = unless (splits_hold_phases plan) rules.K18 (from_19 plan)

from_17 : Plan → Option Rule
from_17 plan = unless (patterns_are_whole plan) rules.K17 (from_18 plan)

from_16 : Plan → Option Rule
from_16 plan = unless (preempts_dwell plan) rules.K16 (from_17 plan)

from_15 : Plan → Option Rule
from_15 plan = unless (preempts_are_concurrent plan) rules.K15 (from_16 plan)

from_14 : Plan → Option Rule
from_14 plan = unless (included_phases_are_enabled plan) rules.K14 (from_15 plan)

from_13 : Plan → Option Rule
from_13 plan = unless (pedestrian_detectors_call_walks plan) rules.K13 (from_14 plan)

from_12 : Plan → Option Rule
from_12 plan = unless (detectors_call_phases plan) rules.K12 (from_13 plan)

from_11 : Plan → Option Rule
from_11 plan = unless (recalled_pedestrians_walk plan) rules.K11 (from_12 plan)

from_10 : Plan → Option Rule
from_10 plan = unless (maximums_reach_minimums plan) rules.K10 (from_11 plan)

from_9 : Plan → Option Rule
from_9 plan = unless (gaps_can_reduce plan) rules.K9 (from_10 plan)

from_8 : Plan → Option Rule
from_8 plan = unless (yellows_are_long plan) rules.K8 (from_9 plan)

from_7 : Plan → Option Rule
from_7 plan = unless (other_sequences_are_ordered plan) rules.K7 (from_8 plan)

from_6 : Plan → Option Rule
from_6 plan = unless (first_sequence_is_ordered plan) rules.K6 (from_7 plan)

from_5 : Plan → Option Rule
from_5 plan = unless (concurrency_is_symmetric plan) rules.K5 (from_6 plan)

from_4 : Plan → Option Rule
from_4 plan = unless (lists_name_across_rings plan) rules.K4 (from_5 plan)

from_3 : Plan → Option Rule
from_3 plan = unless (unused_lists_are_empty plan) rules.K3 (from_4 plan)

from_2 : Plan → Option Rule
from_2 plan = unless (are_placed plan) rules.K2 (from_3 plan)

from_1 : Plan → Option Rule
from_1 plan = unless (some_enabled plan) rules.K1 (from_2 plan)

or-seven : (a b c d e f g : Bool) (k l m n o p q : Rule) (rest : Option Rule) →
    or_rule (unless a k (unless b l (unless c m (unless d n (unless e o (unless f p (unless g q None))))))) rest
    ≡ unless a k (unless b l (unless c m (unless d n (unless e o (unless f p (unless g q rest))))))
or-seven a b c d e f g k l m n o p q rest =
    or-unless a k _ rest ∙ ap (unless a k) (or-unless b l _ rest ∙ ap (unless b l) (or-unless c m _ rest ∙ ap (unless c m) (or-unless d n _ rest
    ∙ ap (unless d n) (or-unless e o _ rest ∙ ap (unless e o) (or-unless f p _ rest ∙ ap (unless f p) (or-unless g q None rest))))))

or-six : (a b c d e f : Bool) (k l m n o p : Rule) (rest : Option Rule) →
    or_rule (unless a k (unless b l (unless c m (unless d n (unless e o (unless f p None)))))) rest
    ≡ unless a k (unless b l (unless c m (unless d n (unless e o (unless f p rest)))))
or-six a b c d e f k l m n o p rest =
    or-unless a k _ rest ∙ ap (unless a k) (or-unless b l _ rest ∙ ap (unless b l) (or-unless c m _ rest ∙ ap (unless c m) (or-unless d n _ rest
    ∙ ap (unless d n) (or-unless e o _ rest ∙ ap (unless e o) (or-unless f p None rest)))))

or-four : (a b c d : Bool) (k l m n : Rule) (rest : Option Rule) →
    or_rule (unless a k (unless b l (unless c m (unless d n None)))) rest ≡ unless a k (unless b l (unless c m (unless d n rest)))
or-four a b c d k l m n rest =
    or-unless a k _ rest ∙ ap (unless a k) (or-unless b l _ rest ∙ ap (unless b l) (or-unless c m _ rest ∙ ap (unless c m) (or-unless d n None rest)))

or-three : (a b c : Bool) (k l m : Rule) (rest : Option Rule) →
    or_rule (unless a k (unless b l (unless c m None))) rest ≡ unless a k (unless b l (unless c m rest))
or-three a b c k l m rest =
    or-unless a k _ rest ∙ ap (unless a k) (or-unless b l _ rest ∙ ap (unless b l) (or-unless c m None rest))

-- the first rule that is broken, of the groups from a number on
late_24 : Plan → Option Rule
late_24 plan = or_rule (broken_by_schedule plan) (broken_by_overlaps plan)

late_21 : Plan → Option Rule
late_21 plan = or_rule (broken_by_extensions plan) (late_24 plan)

late_14 : Plan → Option Rule
late_14 plan = or_rule (broken_by_parts plan) (late_21 plan)

late_8 : Plan → Option Rule
late_8 plan = or_rule (broken_by_phases plan) (late_14 plan)

schedule-in-order : (plan : Plan) → late_24 plan ≡ from_24 plan
unfolding late_24 broken_by_schedule broken_by_overlaps from_24 from_25 from_26 from_27 from_28 from_29
schedule-in-order plan =
    or-four (events_are_apart plan) (day_plans_have_events plan) (actions_are_defined plan) (asked_patterns_are_used plan) rules.K24 rules.K25 rules.K26 rules.K27 (broken_by_overlaps plan)

extensions-in-order : (plan : Plan) → late_21 plan ≡ from_21 plan
unfolding late_21 broken_by_extensions from_21 from_22 from_23
extensions-in-order plan =
    ap (or_rule (broken_by_extensions plan)) (schedule-in-order plan)
    ∙ or-three (modifiers_are_right plan) (limits_reach_minimums plan) (permissive_times_end plan) rules.K21 rules.K22 rules.K23 (from_24 plan)

parts-in-order : (plan : Plan) → late_14 plan ≡ from_14 plan
unfolding late_14 broken_by_parts from_14 from_15 from_16 from_17 from_18 from_19 from_20
parts-in-order plan =
    ap (or_rule (broken_by_parts plan)) (extensions-in-order plan)
    ∙ or-seven (included_phases_are_enabled plan) (preempts_are_concurrent plan) (preempts_dwell plan) (patterns_are_whole plan) (splits_hold_phases plan) (splits_fill_cycles plan) (coordinated_phases_agree plan)
    rules.K14 rules.K15 rules.K16 rules.K17 rules.K18 rules.K19 rules.K20 (from_21 plan)

phases-in-order : (plan : Plan) → late_8 plan ≡ from_8 plan
unfolding late_8 broken_by_phases from_8 from_9 from_10 from_11 from_12 from_13
phases-in-order plan =
    ap (or_rule (broken_by_phases plan)) (parts-in-order plan)
    ∙ or-six (yellows_are_long plan) (gaps_can_reduce plan) (maximums_reach_minimums plan) (recalled_pedestrians_walk plan) (detectors_call_phases plan) (pedestrian_detectors_call_walks plan)
    rules.K8 rules.K9 rules.K10 rules.K11 rules.K12 rules.K13 (from_14 plan)

in-order : (plan : Plan) → first_broken plan ≡ from_1 plan
unfolding first_broken late_8 late_14 late_21 late_24 broken_by_rings from_1 from_2 from_3 from_4 from_5 from_6 from_7
in-order plan =
    ap (or_rule (broken_by_rings plan)) (phases-in-order plan)
    ∙ or-seven (some_enabled plan) (are_placed plan) (unused_lists_are_empty plan) (lists_name_across_rings plan) (concurrency_is_symmetric plan) (first_sequence_is_ordered plan) (other_sequences_are_ordered plan)
    rules.K1 rules.K2 rules.K3 rules.K4 rules.K5 rules.K6 rules.K7 (from_8 plan)

-- ## Rules and the ways to break them, from the last on

ways_29 : List RuleFault
ways_29 = at.K29Yellow ∷ at.K29Type ∷ []

ways_28 : List RuleFault
ways_28 = at.K28Empty ∷ at.K28Turns ∷ at.K28Together ∷ ways_29

ways_27 : List RuleFault
ways_27 = at.K27Number ∷ at.K27Unused ∷ ways_28

ways_26 : List RuleFault
ways_26 = at.K26 ∷ ways_27

ways_25 : List RuleFault
ways_25 = at.K25 ∷ ways_26

ways_24 : List RuleFault
ways_24 = at.K24 ∷ ways_25

ways_23 : List RuleFault
ways_23 = at.K23 ∷ ways_24

ways_22 : List RuleFault
ways_22 = at.K22 ∷ ways_23

ways_21 : List RuleFault
ways_21 = at.K21Unused ∷ at.K21Type ∷ ways_22

ways_20 : List RuleFault
ways_20 = at.K20None ∷ at.K20Unused ∷ at.K20Omitted ∷ at.K20Sides ∷ at.K20Apart ∷ at.K20Ends ∷ at.K20Ring ∷ ways_21

ways_19 : List RuleFault
ways_19 = at.K19Rings ∷ at.K19Cycle ∷ ways_20

ways_18 : List RuleFault
ways_18 = at.K18 ∷ ways_19

ways_17 : List RuleFault
ways_17 = at.K17Offset ∷ at.K17Split ∷ at.K17Sequence ∷ at.K17Blank ∷ ways_18

ways_16 : List RuleFault
ways_16 = at.K16Track ∷ at.K16Exit ∷ ways_17

ways_15 : List RuleFault
ways_15 = at.K15TrackUnused ∷ at.K15DwellUnused ∷ at.K15ExitUnused ∷ at.K15Track ∷ at.K15Dwell ∷ at.K15Exit ∷ ways_16

ways_14 : List RuleFault
ways_14 = at.K14 ∷ ways_15

ways_13 : List RuleFault
ways_13 = at.K13Unused ∷ at.K13Walk ∷ ways_14

ways_12 : List RuleFault
ways_12 = at.K12 ∷ ways_13

ways_11 : List RuleFault
ways_11 = at.K11 ∷ ways_12

ways_10 : List RuleFault
ways_10 = at.K10Maximum1 ∷ at.K10Maximum2 ∷ ways_11

ways_9 : List RuleFault
ways_9 = at.K9 ∷ ways_10

ways_8 : List RuleFault
ways_8 = at.K8 ∷ ways_9

ways_7 : List RuleFault
ways_7 = at.K7Unused ∷ at.K7Ring ∷ at.K7Missing ∷ at.K7Again ∷ at.K7Side ∷ at.K7Gap ∷ ways_8

ways_6 : List RuleFault
ways_6 = at.K6Unused ∷ at.K6Ring ∷ at.K6Missing ∷ at.K6Again ∷ at.K6Side ∷ at.K6Gap ∷ ways_7

ways_5 : List RuleFault
ways_5 = at.K5 ∷ ways_6

ways_4 : List RuleFault
ways_4 = at.K4Unused ∷ at.K4Ring ∷ at.K4Side ∷ ways_5

ways_3 : List RuleFault
ways_3 = at.K3 ∷ ways_4

ways_2 : List RuleFault
ways_2 = at.K2Ring ∷ at.K2Side ∷ ways_3

ways_1 : List RuleFault
ways_1 = at.K1 ∷ ways_2

met-from-29 : (v : Object → ℕ → ℕ) → chain (of_values v) ways_29 ≡ from_29 (of_values v)
unfolding chain ways_29 from_29
met-from-29 v =
    unless-and (none_at (of_values v) at.K29Yellow) (none_at (of_values v) at.K29Type) rules.K29 None
    ∙ step ((none_at (of_values v) at.K29Yellow) && (none_at (of_values v) at.K29Type)) (trails_are_right (of_values v)) rules.K29 None None (met-29 v) (λ m. refl)

met-from-28 : (v : Object → ℕ → ℕ) → chain (of_values v) ways_28 ≡ from_28 (of_values v)
unfolding chain ways_28 from_28
met-from-28 v =
    join (none_at (of_values v) at.K28Empty) ((none_at (of_values v) at.K28Turns) && (none_at (of_values v) at.K28Together)) rules.K28 (chain (of_values v) ways_29) (unless (none_at (of_values v) at.K28Turns) rules.K28 (unless (none_at (of_values v) at.K28Together) rules.K28 (chain (of_values v) ways_29)))
    (unless-and (none_at (of_values v) at.K28Turns) (none_at (of_values v) at.K28Together) rules.K28 (chain (of_values v) ways_29))
    ∙ step ((none_at (of_values v) at.K28Empty) && ((none_at (of_values v) at.K28Turns) && (none_at (of_values v) at.K28Together))) (arrows_are_right (of_values v)) rules.K28 (chain (of_values v) ways_29) (from_29 (of_values v)) (met-28 v) (λ m. met-from-29 v)

met-from-27 : (v : Object → ℕ → ℕ) → chain (of_values v) ways_27 ≡ from_27 (of_values v)
unfolding chain ways_27 from_27
met-from-27 v =
    unless-and (none_at (of_values v) at.K27Number) (none_at (of_values v) at.K27Unused) rules.K27 (chain (of_values v) ways_28)
    ∙ step ((none_at (of_values v) at.K27Number) && (none_at (of_values v) at.K27Unused)) (asked_patterns_are_used (of_values v)) rules.K27 (chain (of_values v) ways_28) (from_28 (of_values v)) (met-27 v) (λ m. met-from-28 v)

met-from-26 : (v : Object → ℕ → ℕ) → chain (of_values v) ways_26 ≡ from_26 (of_values v)
unfolding chain ways_26 from_26
met-from-26 v =
    step (none_at (of_values v) at.K26) (actions_are_defined (of_values v)) rules.K26 (chain (of_values v) ways_27) (from_27 (of_values v)) (met-26 v) (λ m. met-from-27 v)

met-from-25 : (v : Object → ℕ → ℕ) → chain (of_values v) ways_25 ≡ from_25 (of_values v)
unfolding chain ways_25 from_25
met-from-25 v =
    step (none_at (of_values v) at.K25) (day_plans_have_events (of_values v)) rules.K25 (chain (of_values v) ways_26) (from_26 (of_values v)) (met-25 v) (λ m. met-from-26 v)

met-from-24 : (v : Object → ℕ → ℕ) → chain (of_values v) ways_24 ≡ from_24 (of_values v)
unfolding chain ways_24 from_24
met-from-24 v =
    step (none_at (of_values v) at.K24) (events_are_apart (of_values v)) rules.K24 (chain (of_values v) ways_25) (from_25 (of_values v)) (met-24 v) (λ m. met-from-25 v)

met-from-23 : (v : Object → ℕ → ℕ) → chain (of_values v) ways_23 ≡ from_23 (of_values v)
unfolding chain ways_23 from_23
met-from-23 v =
    step (none_at (of_values v) at.K23) (permissive_times_end (of_values v)) rules.K23 (chain (of_values v) ways_24) (from_24 (of_values v)) (met-23 v) (λ m. met-from-24 v)

met-from-22 : (v : Object → ℕ → ℕ) → chain (of_values v) ways_22 ≡ from_22 (of_values v)
unfolding chain ways_22 from_22
met-from-22 v =
    step (none_at (of_values v) at.K22) (limits_reach_minimums (of_values v)) rules.K22 (chain (of_values v) ways_23) (from_23 (of_values v)) (met-22 v) (λ m. met-from-23 v)

met-from-21 : (v : Object → ℕ → ℕ) → chain (of_values v) ways_21 ≡ from_21 (of_values v)
unfolding chain ways_21 from_21
met-from-21 v =
    unless-and (none_at (of_values v) at.K21Unused) (none_at (of_values v) at.K21Type) rules.K21 (chain (of_values v) ways_22)
    ∙ step ((none_at (of_values v) at.K21Unused) && (none_at (of_values v) at.K21Type)) (modifiers_are_right (of_values v)) rules.K21 (chain (of_values v) ways_22) (from_22 (of_values v)) (met-21 v) (λ m. met-from-22 v)

met-from-20 : (v : Object → ℕ → ℕ) → patterns_are_whole (of_values v) ≡ true → chain (of_values v) ways_20 ≡ from_20 (of_values v)
unfolding chain ways_20 from_20
met-from-20 v whole =
    join (none_at (of_values v) at.K20None) ((none_at (of_values v) at.K20Unused) && ((none_at (of_values v) at.K20Omitted) && ((none_at (of_values v) at.K20Sides) && ((none_at (of_values v) at.K20Apart) && ((none_at (of_values v) at.K20Ends) && (none_at (of_values v) at.K20Ring)))))) rules.K20 (chain (of_values v) ways_21) (unless (none_at (of_values v) at.K20Unused) rules.K20 (unless (none_at (of_values v) at.K20Omitted) rules.K20 (unless (none_at (of_values v) at.K20Sides) rules.K20 (unless (none_at (of_values v) at.K20Apart) rules.K20 (unless (none_at (of_values v) at.K20Ends) rules.K20 (unless (none_at (of_values v) at.K20Ring) rules.K20 (chain (of_values v) ways_21)))))))
    (join (none_at (of_values v) at.K20Unused) ((none_at (of_values v) at.K20Omitted) && ((none_at (of_values v) at.K20Sides) && ((none_at (of_values v) at.K20Apart) && ((none_at (of_values v) at.K20Ends) && (none_at (of_values v) at.K20Ring))))) rules.K20 (chain (of_values v) ways_21) (unless (none_at (of_values v) at.K20Omitted) rules.K20 (unless (none_at (of_values v) at.K20Sides) rules.K20 (unless (none_at (of_values v) at.K20Apart) rules.K20 (unless (none_at (of_values v) at.K20Ends) rules.K20 (unless (none_at (of_values v) at.K20Ring) rules.K20 (chain (of_values v) ways_21))))))
    (join (none_at (of_values v) at.K20Omitted) ((none_at (of_values v) at.K20Sides) && ((none_at (of_values v) at.K20Apart) && ((none_at (of_values v) at.K20Ends) && (none_at (of_values v) at.K20Ring)))) rules.K20 (chain (of_values v) ways_21) (unless (none_at (of_values v) at.K20Sides) rules.K20 (unless (none_at (of_values v) at.K20Apart) rules.K20 (unless (none_at (of_values v) at.K20Ends) rules.K20 (unless (none_at (of_values v) at.K20Ring) rules.K20 (chain (of_values v) ways_21)))))
    (join (none_at (of_values v) at.K20Sides) ((none_at (of_values v) at.K20Apart) && ((none_at (of_values v) at.K20Ends) && (none_at (of_values v) at.K20Ring))) rules.K20 (chain (of_values v) ways_21) (unless (none_at (of_values v) at.K20Apart) rules.K20 (unless (none_at (of_values v) at.K20Ends) rules.K20 (unless (none_at (of_values v) at.K20Ring) rules.K20 (chain (of_values v) ways_21))))
    (join (none_at (of_values v) at.K20Apart) ((none_at (of_values v) at.K20Ends) && (none_at (of_values v) at.K20Ring)) rules.K20 (chain (of_values v) ways_21) (unless (none_at (of_values v) at.K20Ends) rules.K20 (unless (none_at (of_values v) at.K20Ring) rules.K20 (chain (of_values v) ways_21)))
    (unless-and (none_at (of_values v) at.K20Ends) (none_at (of_values v) at.K20Ring) rules.K20 (chain (of_values v) ways_21))))))
    ∙ step ((none_at (of_values v) at.K20None) && ((none_at (of_values v) at.K20Unused) && ((none_at (of_values v) at.K20Omitted) && ((none_at (of_values v) at.K20Sides) && ((none_at (of_values v) at.K20Apart) && ((none_at (of_values v) at.K20Ends) && (none_at (of_values v) at.K20Ring))))))) (coordinated_phases_agree (of_values v)) rules.K20 (chain (of_values v) ways_21) (from_21 (of_values v)) (met-20 v whole) (λ m. met-from-21 v)

met-from-19 : (v : Object → ℕ → ℕ) → patterns_are_whole (of_values v) ≡ true → chain (of_values v) ways_19 ≡ from_19 (of_values v)
unfolding chain ways_19 from_19
met-from-19 v whole =
    unless-and (none_at (of_values v) at.K19Rings) (none_at (of_values v) at.K19Cycle) rules.K19 (chain (of_values v) ways_20)
    ∙ step ((none_at (of_values v) at.K19Rings) && (none_at (of_values v) at.K19Cycle)) (splits_fill_cycles (of_values v)) rules.K19 (chain (of_values v) ways_20) (from_20 (of_values v)) (met-19 v whole) (λ m. met-from-20 v whole)

met-from-18 : (v : Object → ℕ → ℕ) → patterns_are_whole (of_values v) ≡ true → chain (of_values v) ways_18 ≡ from_18 (of_values v)
unfolding chain ways_18 from_18
met-from-18 v whole =
    step (none_at (of_values v) at.K18) (splits_hold_phases (of_values v)) rules.K18 (chain (of_values v) ways_19) (from_19 (of_values v)) (met-18 v whole) (λ m. met-from-19 v whole)

met-from-17 : (v : Object → ℕ → ℕ) → chain (of_values v) ways_17 ≡ from_17 (of_values v)
unfolding chain ways_17 from_17
met-from-17 v =
    join (none_at (of_values v) at.K17Offset) ((none_at (of_values v) at.K17Split) && ((none_at (of_values v) at.K17Sequence) && (none_at (of_values v) at.K17Blank))) rules.K17 (chain (of_values v) ways_18) (unless (none_at (of_values v) at.K17Split) rules.K17 (unless (none_at (of_values v) at.K17Sequence) rules.K17 (unless (none_at (of_values v) at.K17Blank) rules.K17 (chain (of_values v) ways_18))))
    (join (none_at (of_values v) at.K17Split) ((none_at (of_values v) at.K17Sequence) && (none_at (of_values v) at.K17Blank)) rules.K17 (chain (of_values v) ways_18) (unless (none_at (of_values v) at.K17Sequence) rules.K17 (unless (none_at (of_values v) at.K17Blank) rules.K17 (chain (of_values v) ways_18)))
    (unless-and (none_at (of_values v) at.K17Sequence) (none_at (of_values v) at.K17Blank) rules.K17 (chain (of_values v) ways_18)))
    ∙ step ((none_at (of_values v) at.K17Offset) && ((none_at (of_values v) at.K17Split) && ((none_at (of_values v) at.K17Sequence) && (none_at (of_values v) at.K17Blank)))) (patterns_are_whole (of_values v)) rules.K17 (chain (of_values v) ways_18) (from_18 (of_values v)) (met-17 v) (λ m. met-from-18 v m)

met-from-16 : (v : Object → ℕ → ℕ) → chain (of_values v) ways_16 ≡ from_16 (of_values v)
unfolding chain ways_16 from_16
met-from-16 v =
    unless-and (none_at (of_values v) at.K16Track) (none_at (of_values v) at.K16Exit) rules.K16 (chain (of_values v) ways_17)
    ∙ step ((none_at (of_values v) at.K16Track) && (none_at (of_values v) at.K16Exit)) (preempts_dwell (of_values v)) rules.K16 (chain (of_values v) ways_17) (from_17 (of_values v)) (met-16 v) (λ m. met-from-17 v)

met-from-15 : (v : Object → ℕ → ℕ) → chain (of_values v) ways_15 ≡ from_15 (of_values v)
unfolding chain ways_15 from_15
met-from-15 v =
    join (none_at (of_values v) at.K15TrackUnused) ((none_at (of_values v) at.K15DwellUnused) && ((none_at (of_values v) at.K15ExitUnused) && ((none_at (of_values v) at.K15Track) && ((none_at (of_values v) at.K15Dwell) && (none_at (of_values v) at.K15Exit))))) rules.K15 (chain (of_values v) ways_16) (unless (none_at (of_values v) at.K15DwellUnused) rules.K15 (unless (none_at (of_values v) at.K15ExitUnused) rules.K15 (unless (none_at (of_values v) at.K15Track) rules.K15 (unless (none_at (of_values v) at.K15Dwell) rules.K15 (unless (none_at (of_values v) at.K15Exit) rules.K15 (chain (of_values v) ways_16))))))
    (join (none_at (of_values v) at.K15DwellUnused) ((none_at (of_values v) at.K15ExitUnused) && ((none_at (of_values v) at.K15Track) && ((none_at (of_values v) at.K15Dwell) && (none_at (of_values v) at.K15Exit)))) rules.K15 (chain (of_values v) ways_16) (unless (none_at (of_values v) at.K15ExitUnused) rules.K15 (unless (none_at (of_values v) at.K15Track) rules.K15 (unless (none_at (of_values v) at.K15Dwell) rules.K15 (unless (none_at (of_values v) at.K15Exit) rules.K15 (chain (of_values v) ways_16)))))
    (join (none_at (of_values v) at.K15ExitUnused) ((none_at (of_values v) at.K15Track) && ((none_at (of_values v) at.K15Dwell) && (none_at (of_values v) at.K15Exit))) rules.K15 (chain (of_values v) ways_16) (unless (none_at (of_values v) at.K15Track) rules.K15 (unless (none_at (of_values v) at.K15Dwell) rules.K15 (unless (none_at (of_values v) at.K15Exit) rules.K15 (chain (of_values v) ways_16))))
    (join (none_at (of_values v) at.K15Track) ((none_at (of_values v) at.K15Dwell) && (none_at (of_values v) at.K15Exit)) rules.K15 (chain (of_values v) ways_16) (unless (none_at (of_values v) at.K15Dwell) rules.K15 (unless (none_at (of_values v) at.K15Exit) rules.K15 (chain (of_values v) ways_16)))
    (unless-and (none_at (of_values v) at.K15Dwell) (none_at (of_values v) at.K15Exit) rules.K15 (chain (of_values v) ways_16)))))
    ∙ step ((none_at (of_values v) at.K15TrackUnused) && ((none_at (of_values v) at.K15DwellUnused) && ((none_at (of_values v) at.K15ExitUnused) && ((none_at (of_values v) at.K15Track) && ((none_at (of_values v) at.K15Dwell) && (none_at (of_values v) at.K15Exit)))))) (preempts_are_concurrent (of_values v)) rules.K15 (chain (of_values v) ways_16) (from_16 (of_values v)) (met-15 v) (λ m. met-from-16 v)

met-from-14 : (v : Object → ℕ → ℕ) → chain (of_values v) ways_14 ≡ from_14 (of_values v)
unfolding chain ways_14 from_14
met-from-14 v =
    step (none_at (of_values v) at.K14) (included_phases_are_enabled (of_values v)) rules.K14 (chain (of_values v) ways_15) (from_15 (of_values v)) (met-14 v) (λ m. met-from-15 v)

met-from-13 : (v : Object → ℕ → ℕ) → chain (of_values v) ways_13 ≡ from_13 (of_values v)
unfolding chain ways_13 from_13
met-from-13 v =
    unless-and (none_at (of_values v) at.K13Unused) (none_at (of_values v) at.K13Walk) rules.K13 (chain (of_values v) ways_14)
    ∙ step ((none_at (of_values v) at.K13Unused) && (none_at (of_values v) at.K13Walk)) (pedestrian_detectors_call_walks (of_values v)) rules.K13 (chain (of_values v) ways_14) (from_14 (of_values v)) (met-13 v) (λ m. met-from-14 v)

met-from-12 : (v : Object → ℕ → ℕ) → chain (of_values v) ways_12 ≡ from_12 (of_values v)
unfolding chain ways_12 from_12
met-from-12 v =
    step (none_at (of_values v) at.K12) (detectors_call_phases (of_values v)) rules.K12 (chain (of_values v) ways_13) (from_13 (of_values v)) (met-12 v) (λ m. met-from-13 v)

met-from-11 : (v : Object → ℕ → ℕ) → chain (of_values v) ways_11 ≡ from_11 (of_values v)
unfolding chain ways_11 from_11
met-from-11 v =
    step (none_at (of_values v) at.K11) (recalled_pedestrians_walk (of_values v)) rules.K11 (chain (of_values v) ways_12) (from_12 (of_values v)) (met-11 v) (λ m. met-from-12 v)

met-from-10 : (v : Object → ℕ → ℕ) → chain (of_values v) ways_10 ≡ from_10 (of_values v)
unfolding chain ways_10 from_10
met-from-10 v =
    unless-and (none_at (of_values v) at.K10Maximum1) (none_at (of_values v) at.K10Maximum2) rules.K10 (chain (of_values v) ways_11)
    ∙ step ((none_at (of_values v) at.K10Maximum1) && (none_at (of_values v) at.K10Maximum2)) (maximums_reach_minimums (of_values v)) rules.K10 (chain (of_values v) ways_11) (from_11 (of_values v)) (met-10 v) (λ m. met-from-11 v)

met-from-9 : (v : Object → ℕ → ℕ) → chain (of_values v) ways_9 ≡ from_9 (of_values v)
unfolding chain ways_9 from_9
met-from-9 v =
    step (none_at (of_values v) at.K9) (gaps_can_reduce (of_values v)) rules.K9 (chain (of_values v) ways_10) (from_10 (of_values v)) (met-9 v) (λ m. met-from-10 v)

met-from-8 : (v : Object → ℕ → ℕ) → chain (of_values v) ways_8 ≡ from_8 (of_values v)
unfolding chain ways_8 from_8
met-from-8 v =
    step (none_at (of_values v) at.K8) (yellows_are_long (of_values v)) rules.K8 (chain (of_values v) ways_9) (from_9 (of_values v)) (met-8 v) (λ m. met-from-9 v)

met-from-7 : (v : Object → ℕ → ℕ) → chain (of_values v) ways_7 ≡ from_7 (of_values v)
unfolding chain ways_7 from_7
met-from-7 v =
    join (none_at (of_values v) at.K7Unused) ((none_at (of_values v) at.K7Ring) && ((none_at (of_values v) at.K7Missing) && ((none_at (of_values v) at.K7Again) && ((none_at (of_values v) at.K7Side) && (none_at (of_values v) at.K7Gap))))) rules.K7 (chain (of_values v) ways_8) (unless (none_at (of_values v) at.K7Ring) rules.K7 (unless (none_at (of_values v) at.K7Missing) rules.K7 (unless (none_at (of_values v) at.K7Again) rules.K7 (unless (none_at (of_values v) at.K7Side) rules.K7 (unless (none_at (of_values v) at.K7Gap) rules.K7 (chain (of_values v) ways_8))))))
    (join (none_at (of_values v) at.K7Ring) ((none_at (of_values v) at.K7Missing) && ((none_at (of_values v) at.K7Again) && ((none_at (of_values v) at.K7Side) && (none_at (of_values v) at.K7Gap)))) rules.K7 (chain (of_values v) ways_8) (unless (none_at (of_values v) at.K7Missing) rules.K7 (unless (none_at (of_values v) at.K7Again) rules.K7 (unless (none_at (of_values v) at.K7Side) rules.K7 (unless (none_at (of_values v) at.K7Gap) rules.K7 (chain (of_values v) ways_8)))))
    (join (none_at (of_values v) at.K7Missing) ((none_at (of_values v) at.K7Again) && ((none_at (of_values v) at.K7Side) && (none_at (of_values v) at.K7Gap))) rules.K7 (chain (of_values v) ways_8) (unless (none_at (of_values v) at.K7Again) rules.K7 (unless (none_at (of_values v) at.K7Side) rules.K7 (unless (none_at (of_values v) at.K7Gap) rules.K7 (chain (of_values v) ways_8))))
    (join (none_at (of_values v) at.K7Again) ((none_at (of_values v) at.K7Side) && (none_at (of_values v) at.K7Gap)) rules.K7 (chain (of_values v) ways_8) (unless (none_at (of_values v) at.K7Side) rules.K7 (unless (none_at (of_values v) at.K7Gap) rules.K7 (chain (of_values v) ways_8)))
    (unless-and (none_at (of_values v) at.K7Side) (none_at (of_values v) at.K7Gap) rules.K7 (chain (of_values v) ways_8)))))
    ∙ step ((none_at (of_values v) at.K7Unused) && ((none_at (of_values v) at.K7Ring) && ((none_at (of_values v) at.K7Missing) && ((none_at (of_values v) at.K7Again) && ((none_at (of_values v) at.K7Side) && (none_at (of_values v) at.K7Gap)))))) (other_sequences_are_ordered (of_values v)) rules.K7 (chain (of_values v) ways_8) (from_8 (of_values v)) (met-7 v) (λ m. met-from-8 v)

met-from-6 : (v : Object → ℕ → ℕ) → chain (of_values v) ways_6 ≡ from_6 (of_values v)
unfolding chain ways_6 from_6
met-from-6 v =
    join (none_at (of_values v) at.K6Unused) ((none_at (of_values v) at.K6Ring) && ((none_at (of_values v) at.K6Missing) && ((none_at (of_values v) at.K6Again) && ((none_at (of_values v) at.K6Side) && (none_at (of_values v) at.K6Gap))))) rules.K6 (chain (of_values v) ways_7) (unless (none_at (of_values v) at.K6Ring) rules.K6 (unless (none_at (of_values v) at.K6Missing) rules.K6 (unless (none_at (of_values v) at.K6Again) rules.K6 (unless (none_at (of_values v) at.K6Side) rules.K6 (unless (none_at (of_values v) at.K6Gap) rules.K6 (chain (of_values v) ways_7))))))
    (join (none_at (of_values v) at.K6Ring) ((none_at (of_values v) at.K6Missing) && ((none_at (of_values v) at.K6Again) && ((none_at (of_values v) at.K6Side) && (none_at (of_values v) at.K6Gap)))) rules.K6 (chain (of_values v) ways_7) (unless (none_at (of_values v) at.K6Missing) rules.K6 (unless (none_at (of_values v) at.K6Again) rules.K6 (unless (none_at (of_values v) at.K6Side) rules.K6 (unless (none_at (of_values v) at.K6Gap) rules.K6 (chain (of_values v) ways_7)))))
    (join (none_at (of_values v) at.K6Missing) ((none_at (of_values v) at.K6Again) && ((none_at (of_values v) at.K6Side) && (none_at (of_values v) at.K6Gap))) rules.K6 (chain (of_values v) ways_7) (unless (none_at (of_values v) at.K6Again) rules.K6 (unless (none_at (of_values v) at.K6Side) rules.K6 (unless (none_at (of_values v) at.K6Gap) rules.K6 (chain (of_values v) ways_7))))
    (join (none_at (of_values v) at.K6Again) ((none_at (of_values v) at.K6Side) && (none_at (of_values v) at.K6Gap)) rules.K6 (chain (of_values v) ways_7) (unless (none_at (of_values v) at.K6Side) rules.K6 (unless (none_at (of_values v) at.K6Gap) rules.K6 (chain (of_values v) ways_7)))
    (unless-and (none_at (of_values v) at.K6Side) (none_at (of_values v) at.K6Gap) rules.K6 (chain (of_values v) ways_7)))))
    ∙ step ((none_at (of_values v) at.K6Unused) && ((none_at (of_values v) at.K6Ring) && ((none_at (of_values v) at.K6Missing) && ((none_at (of_values v) at.K6Again) && ((none_at (of_values v) at.K6Side) && (none_at (of_values v) at.K6Gap)))))) (first_sequence_is_ordered (of_values v)) rules.K6 (chain (of_values v) ways_7) (from_7 (of_values v)) (met-6 v) (λ m. met-from-7 v)

met-from-5 : (v : Object → ℕ → ℕ) → chain (of_values v) ways_5 ≡ from_5 (of_values v)
unfolding chain ways_5 from_5
met-from-5 v =
    step (none_at (of_values v) at.K5) (concurrency_is_symmetric (of_values v)) rules.K5 (chain (of_values v) ways_6) (from_6 (of_values v)) (met-5 v) (λ m. met-from-6 v)

met-from-4 : (v : Object → ℕ → ℕ) → chain (of_values v) ways_4 ≡ from_4 (of_values v)
unfolding chain ways_4 from_4
met-from-4 v =
    join (none_at (of_values v) at.K4Unused) ((none_at (of_values v) at.K4Ring) && (none_at (of_values v) at.K4Side)) rules.K4 (chain (of_values v) ways_5) (unless (none_at (of_values v) at.K4Ring) rules.K4 (unless (none_at (of_values v) at.K4Side) rules.K4 (chain (of_values v) ways_5)))
    (unless-and (none_at (of_values v) at.K4Ring) (none_at (of_values v) at.K4Side) rules.K4 (chain (of_values v) ways_5))
    ∙ step ((none_at (of_values v) at.K4Unused) && ((none_at (of_values v) at.K4Ring) && (none_at (of_values v) at.K4Side))) (lists_name_across_rings (of_values v)) rules.K4 (chain (of_values v) ways_5) (from_5 (of_values v)) (met-4 v) (λ m. met-from-5 v)

met-from-3 : (v : Object → ℕ → ℕ) → chain (of_values v) ways_3 ≡ from_3 (of_values v)
unfolding chain ways_3 from_3
met-from-3 v =
    step (none_at (of_values v) at.K3) (unused_lists_are_empty (of_values v)) rules.K3 (chain (of_values v) ways_4) (from_4 (of_values v)) (met-3 v) (λ m. met-from-4 v)

met-from-2 : (v : Object → ℕ → ℕ) → chain (of_values v) ways_2 ≡ from_2 (of_values v)
unfolding chain ways_2 from_2
met-from-2 v =
    unless-and (none_at (of_values v) at.K2Ring) (none_at (of_values v) at.K2Side) rules.K2 (chain (of_values v) ways_3)
    ∙ step ((none_at (of_values v) at.K2Ring) && (none_at (of_values v) at.K2Side)) (are_placed (of_values v)) rules.K2 (chain (of_values v) ways_3) (from_3 (of_values v)) (met-2 v) (λ m. met-from-3 v)

met-from-1 : (v : Object → ℕ → ℕ) → chain (of_values v) ways_1 ≡ from_1 (of_values v)
unfolding chain ways_1 from_1
met-from-1 v =
    step (none_at (of_values v) at.K1) (some_enabled (of_values v)) rules.K1 (chain (of_values v) ways_2) (from_2 (of_values v)) (met-1 (of_values v)) (λ m. met-from-2 v)

all-ways : faults ≡ ways_1
unfolding faults ways_1 ways_2 ways_3 ways_4 ways_5 ways_6 ways_7 ways_8 ways_9 ways_10 ways_11 ways_12 ways_13 ways_14 ways_15 ways_16 ways_17 ways_18 ways_19 ways_20 ways_21 ways_22 ways_23 ways_24 ways_25 ways_26 ways_27 ways_28 ways_29
all-ways = refl

pub first-is : (v : Object → ℕ → ℕ) → first_rule (breaches (of_values v)) ≡ first_broken (of_values v)
unfolding breaches
first-is v =
    first-chain (of_values v) faults ∙ ap (chain (of_values v)) all-ways ∙ met-from-1 v ∙ sym (in-order (of_values v))

no-first : (bs : List Breach) → first_rule bs ≡ None → bs ≡ []
no-first [] e = refl
no-first (b ∷ bs) e = cc

pub none-where : (v : Object → ℕ → ℕ) → (breaches (of_values v) ≡ []) ↔ (first_broken (of_values v) ≡ None)
none-where v = (λ e. sym (first-is v) ∙ ap first_rule e, λ e. no-first (breaches (of_values v)) (first-is v ∙ e))
