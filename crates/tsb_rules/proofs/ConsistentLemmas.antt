-- Each rule's test is passed by a plan that breaks no rule, and what follows of its phases, sequences, preempts, patterns
-- and overlaps.
use Rattle.std.proofs.Common.{◌≡◌, ◌≢◌, if◌then◌else◌, ℕ, ◌+◌, ◌<◌, ◌≤◌, ◌==◌, nat_le, nat_lt, Bool, true, false, not, ◌&&◌, ◌||◌, List, Option, Some, None, refl, arith, sym, ◌∙◌, ap, inl, inr}
use Rattle.std.specs.List.{list_all}
use Rattle.std.proofs.lemmas.Bool.{and_parts, cases_eq}
use Rattle.std.proofs.lemmas.Bool.Decides.{nat_tests}
use Rattle.tsb_plan.specs.declared.object.Object.TheVariants.{OverlapModifierPhases, OverlapTrailGreen, OverlapType, PhaseConcurrency, PreemptTrackPhase, PreemptDwellPhase, PreemptExitPhase, PatternSequenceNumber}
use Rattle.tsb_rules.specs.Consistent.{IsPhase, IsPlaced, GoTogether, IsInUse, ListsRing, ListsRings, AreCompatible, IsPreemptSound, IsWhole, EndTogether, AreCoordinated, IsArrowSound, IsTrailSound}
use Rattle.tsb_types.specs.Lists.{among, first}
use Rattle.tsb_plan.specs.Parts.{unless_zero, is_used, cycle, offset, permissive_time, leads_and_lags, split_of, sequence_of, is_omitted, is_coordinated, is_included, is_modifier, includes_none, trail_yellow}
use Rattle.tsb_rules.specs.PatternRules.{some_and, names_split, is_whole, patterns_are_whole, splits_hold_phases, splits_fill_cycles, coordinated_phases_agree, coordinated_agree, coordinates, agrees_with_all, ends_with, has_one_in_each_ring, has_coordinated, may_coordinate, has_phases, coordinated_count, permissive_times_end, split_end, each_pattern}
use Rattle.tsb_plan.specs.Plan.{Plan, phases, is_enabled, ring_of, side_of, is_concurrent, sequence}
use Rattle.tsb_rules.specs.Rules.{or_rule, some_enabled, is_placed, are_placed, unused_lists_are_empty, may_be_concurrent, names_across_rings, lists_name_across_rings, is_named_back, concurrency_is_symmetric, included_phases_are_enabled, names_concurrent, goes_with_all, has_concurrent_lists, preempts_are_concurrent, dwells_or_is_empty, preempts_dwell, modifiers_are_right, limits_reach_minimums, first_broken, broken_by_rings, broken_by_phases, broken_by_parts, broken_by_extensions, broken_by_schedule, broken_by_overlaps, arrows_are_right, trails_are_right, points_rightly, trails_rightly, turns_alone, only_passes, names_enabled, modifies_rightly}
use Rattle.tsb_rules.specs.declared.rules.Rule.{Rule}
use Rattle.tsb_rules.specs.SequenceRules.{each_phase, is_ordered, sequence_is_ordered, is_blank, lists_only, lists_each, lists_once, rises, first_sequence_is_ordered, other_sequences_are_ordered}
use Rattle.tsb_types.specs.Sets.{names}
use Rattle.tsb_types.proofs.FirstLemmas.{first-passes, first-within}
use Rattle.tsb_types.proofs.SetLemmas.{names-zero}
use Rattle.tsb_rules.proofs.RuleLemmas.{under, unless-met, or_rule-none, at-run_from, Passes, some-run_from, at-among}

-- the tests that a plan passes
pub record MeetsRings (plan : Plan) : Type 0 where
  pub k2 : are_placed plan ≡ true
  pub k3 : unused_lists_are_empty plan ≡ true
  pub k4 : lists_name_across_rings plan ≡ true
  pub k5 : concurrency_is_symmetric plan ≡ true
  pub k6 : first_sequence_is_ordered plan ≡ true
  pub k7 : other_sequences_are_ordered plan ≡ true

pub record MeetsParts (plan : Plan) : Type 0 where
  pub k14 : included_phases_are_enabled plan ≡ true
  pub k15 : preempts_are_concurrent plan ≡ true
  pub k16 : preempts_dwell plan ≡ true
  pub k17 : patterns_are_whole plan ≡ true
  pub k18 : splits_hold_phases plan ≡ true
  pub k19 : splits_fill_cycles plan ≡ true
  pub k20 : coordinated_phases_agree plan ≡ true

pub record MeetsExtensions (plan : Plan) : Type 0 where
  pub k21 : modifiers_are_right plan ≡ true
  pub k23 : permissive_times_end plan ≡ true

pub record MeetsOverlaps (plan : Plan) : Type 0 where
  pub k28 : arrows_are_right plan ≡ true
  pub k29 : trails_are_right plan ≡ true

-- no group of rules is broken
pub record BreaksNone (plan : Plan) : Type 0 where
  pub rings : broken_by_rings plan ≡ None
  pub phases : broken_by_phases plan ≡ None
  pub parts : broken_by_parts plan ≡ None
  pub extensions : broken_by_extensions plan ≡ None
  pub schedule : broken_by_schedule plan ≡ None
  pub overlaps : broken_by_overlaps plan ≡ None

pub breaks_none : (plan : Plan) → first_broken plan ≡ None → BreaksNone plan
unfolding first_broken
breaks_none plan none =
    let from_24 : Option Rule = or_rule (broken_by_schedule plan) (broken_by_overlaps plan) in
    let from_21 : Option Rule = or_rule (broken_by_extensions plan) from_24 in
    let from_14 : Option Rule = or_rule (broken_by_parts plan) from_21 in
    let from_8 : Option Rule = or_rule (broken_by_phases plan) from_14 in
    let rings : (broken_by_rings plan ≡ None) × (from_8 ≡ None) = or_rule-none (broken_by_rings plan) from_8 none in
    let phases : (broken_by_phases plan ≡ None) × (from_14 ≡ None) = or_rule-none (broken_by_phases plan) from_14 rings.1 in
    let parts : (broken_by_parts plan ≡ None) × (from_21 ≡ None) = or_rule-none (broken_by_parts plan) from_21 phases.1 in
    let extensions : (broken_by_extensions plan ≡ None) × (from_24 ≡ None) = or_rule-none (broken_by_extensions plan) from_24 parts.1 in
    let schedule : (broken_by_schedule plan ≡ None) × (broken_by_overlaps plan ≡ None) =
    or_rule-none (broken_by_schedule plan) (broken_by_overlaps plan) extensions.1 in
    record {
      rings = rings.0;
      phases = phases.0;
      parts = parts.0;
      extensions = extensions.0;
      schedule = schedule.0;
      overlaps = schedule.1;
    }

rings : (plan : Plan) → broken_by_rings plan ≡ None → MeetsRings plan
unfolding broken_by_rings
rings plan none =
    let k1 = unless-met (some_enabled plan) _ _ none in
    let k2 = unless-met (are_placed plan) _ _ k1.1 in
    let k3 = unless-met (unused_lists_are_empty plan) _ _ k2.1 in
    let k4 = unless-met (lists_name_across_rings plan) _ _ k3.1 in
    let k5 = unless-met (concurrency_is_symmetric plan) _ _ k4.1 in
    let k6 = unless-met (first_sequence_is_ordered plan) _ _ k5.1 in
    let k7 = unless-met (other_sequences_are_ordered plan) _ _ k6.1 in
    record { k2 = k2.0; k3 = k3.0; k4 = k4.0; k5 = k5.0; k6 = k6.0; k7 = k7.0 }

parts : (plan : Plan) → broken_by_parts plan ≡ None → MeetsParts plan
unfolding broken_by_parts
parts plan none =
    let k14 = unless-met (included_phases_are_enabled plan) _ _ none in
    let k15 = unless-met (preempts_are_concurrent plan) _ _ k14.1 in
    let k16 = unless-met (preempts_dwell plan) _ _ k15.1 in
    let k17 = unless-met (patterns_are_whole plan) _ _ k16.1 in
    let k18 = unless-met (splits_hold_phases plan) _ _ k17.1 in
    let k19 = unless-met (splits_fill_cycles plan) _ _ k18.1 in
    let k20 = unless-met (coordinated_phases_agree plan) _ _ k19.1 in
    record { k14 = k14.0; k15 = k15.0; k16 = k16.0; k17 = k17.0; k18 = k18.0; k19 = k19.0; k20 = k20.0 }

extensions : (plan : Plan) → broken_by_extensions plan ≡ None → MeetsExtensions plan
unfolding broken_by_extensions
extensions plan none =
    let k21 = unless-met (modifiers_are_right plan) _ _ none in
    let k22 = unless-met (limits_reach_minimums plan) _ _ k21.1 in
    let k23 = unless-met (permissive_times_end plan) _ _ k22.1 in
    record { k21 = k21.0; k23 = k23.0 }

overlaps : (plan : Plan) → broken_by_overlaps plan ≡ None → MeetsOverlaps plan
unfolding broken_by_overlaps
overlaps plan none =
    let k28 = unless-met (arrows_are_right plan) _ _ none in
    let k29 = unless-met (trails_are_right plan) _ _ k28.1 in
    record { k28 = k28.0; k29 = k29.0 }

pub meets_rings : (plan : Plan) → first_broken plan ≡ None → MeetsRings plan
meets_rings plan none = rings plan (breaks_none plan none).rings

pub meets_parts : (plan : Plan) → first_broken plan ≡ None → MeetsParts plan
meets_parts plan none = parts plan (breaks_none plan none).parts

pub meets_extensions : (plan : Plan) → first_broken plan ≡ None → MeetsExtensions plan
meets_extensions plan none = extensions plan (breaks_none plan none).extensions

pub meets_overlaps : (plan : Plan) → first_broken plan ≡ None → MeetsOverlaps plan
meets_overlaps plan none = overlaps plan (breaks_none plan none).overlaps

-- of a test that all phases pass, and of one that each enabled phase passes
at-phase : (plan : Plan) (test : ℕ → Bool) (p : ℕ) → list_all test (phases plan) ≡ true → IsPhase plan p → test p ≡ true
at-phase plan test p all is =
    let from : 1 ≤ p = is.from_one in
    let within : p ≤ plan.phase_count = is.within in
    at-run_from test 1 plan.phase_count p all from (omega arith)

at-enabled : (plan : Plan) (test : ℕ → Bool) (p : ℕ) → each_phase plan test ≡ true → IsPhase plan p → is_enabled plan p ≡ true → test p ≡ true
at-enabled plan test p all is on = under (is_enabled plan p) (test p) (at-phase plan (λ q. not (is_enabled plan q) || test q) p all is) on

one_or_two : (r : ℕ) → (r == 1 || r == 2) ≡ true → (1 ≤ r) × (r ≤ 2)
one_or_two r e = (grind (arith, nat_tests, e), grind (arith, nat_tests, e))

pub placed : (plan : Plan) → first_broken plan ≡ None → (p : ℕ) → IsPhase plan p → is_enabled plan p ≡ true → IsPlaced plan p
placed plan none p is on =
    let test : is_placed plan p ≡ true = at-enabled plan (is_placed plan) p (meets_rings plan none).k2 is on in
    let parts = and_parts (ring_of plan p == 1 || ring_of plan p == 2) _ test in
    let sides = and_parts (nat_le 1 (side_of plan p)) _ parts.1 in
    record {
      ring_from = (one_or_two (ring_of plan p) parts.0).0;
      ring_to = (one_or_two (ring_of plan p) parts.0).1;
      side_from = grind (arith, nat_tests, sides.0);
      side_to = grind (arith, nat_tests, sides.1);
    }

-- p and q are concurrent: p is enabled, as another list is empty
turn : (a b : Bool) → (a || b) ≡ true → b ≡ false → a ≡ true
turn true b e off = refl
turn false b e off = cc

pub is-off : (b : Bool) → not b ≡ true → b ≡ false
is-off false e = refl
is-off true e = cc

names-none : (list q : ℕ) → list ≡ 0 → names list q ≡ false
names-none list q e = ap (λ (n : ℕ). names n q) e ∙ names-zero q

decide : (b : Bool) (P : Type 0) → (b ≡ true → P) → (b ≡ false → P) → P
decide true P here there = here refl
decide false P here there = there refl

pub together : (plan : Plan) → first_broken plan ≡ None → (p q : ℕ) → IsPhase plan p → IsPhase plan q → is_concurrent plan p q ≡ true → GoTogether plan p q
together plan none p q is also named =
    let met : MeetsRings plan = meets_rings plan none in
    let first : is_enabled plan p ≡ true =
    decide (is_enabled plan p) (is_enabled plan p ≡ true) (λ on. on)
    (λ off.
    let used : (is_enabled plan p || plan.value PhaseConcurrency p == 0) ≡ true = at-phase plan (λ x. is_enabled plan x || plan.value PhaseConcurrency x == 0) p met.k3 is in
    let zero : (plan.value PhaseConcurrency p == 0) ≡ true = grind (arith, used, off) in
    absurd (apart (names (plan.value PhaseConcurrency p) q) named (names-none (plan.value PhaseConcurrency p) q (grind (arith, nat_tests, zero))))) in
    let across : names_across_rings plan p ≡ true = at-enabled plan (names_across_rings plan) p met.k4 is first in
    let may : may_be_concurrent plan p q ≡ true = under (is_concurrent plan p q) _ (at-phase plan (λ x. not (is_concurrent plan p x) || may_be_concurrent plan p x) q across also) named in
    let parts = and_parts (is_enabled plan q) _ may in
    let places = and_parts (not (ring_of plan p == ring_of plan q)) _ parts.1 in
    let back : is_named_back plan p ≡ true = at-phase plan (is_named_back plan) p met.k5 is in
    record {
      first_enabled = first;
      second_enabled = parts.0;
      rings = λ same. absurd (apart (ring_of plan p == ring_of plan q) (grind (arith, nat_tests, same)) (is-off (ring_of plan p == ring_of plan q) places.0));
      sides = grind (arith, nat_tests, places.1);
      back = under (is_concurrent plan p q) _ (at-phase plan (λ x. not (is_concurrent plan p x) || is_concurrent plan x p) q back also) named;
    }
  where
    apart : (b : Bool) → b ≡ true → b ≡ false → ⊥
    apart true on off = cc
    apart false on off = cc

-- a sequence that is ordered lists the rings
lists-ring : (plan : Plan) (r : ℕ) (ps : List ℕ) → is_ordered plan r ps ≡ true → ListsRing plan r ps
lists-ring plan r ps ordered =
    let only = and_parts (lists_only plan r ps) _ ordered in
    let each = and_parts (lists_each plan r ps) _ only.1 in
    let once = and_parts (lists_once ps) _ each.1 in
    let sides = and_parts (rises plan ps) _ once.1 in
    let listed : (p : ℕ) → among p ps ≡ true → p ≢ 0 → (is_enabled plan p && ring_of plan p == r) ≡ true =
    λ p some other. other-than (p == 0) _ (at-among (λ x. x == 0 || (is_enabled plan x && ring_of plan x == r)) p ps only.0 some)
    (λ zero. other (grind (arith, nat_tests, zero))) in
    record {
      only_enabled = λ p some other. (and_parts (is_enabled plan p) _ (listed p some other)).0;
      only_ring = λ p some other. let e : (ring_of plan p == r) ≡ true = (and_parts (is_enabled plan p) _ (listed p some other)).1 in grind (arith, nat_tests, e);
      each = λ p is on ring.
          under (ring_of plan p == r) _ (at-enabled plan (λ x. not (ring_of plan x == r) || among x ps) p each.0 is on)
          (grind (arith, nat_tests, ring));
      once = once.0;
      sides = sides.0;
      last = sides.1;
    }
  where
    other-than : (a b : Bool) → (a || b) ≡ true → (a ≡ true → ⊥) → b ≡ true
    other-than true b e off = absurd (off refl)
    other-than false b e off = e

lists-rings : (plan : Plan) (s : ℕ) → sequence_is_ordered plan s ≡ true → ListsRings plan s
lists-rings plan s ordered =
    let parts = and_parts (is_ordered plan 1 (sequence plan s 1)) _ ordered in
    record { first = lists-ring plan 1 (sequence plan s 1) parts.0; second = lists-ring plan 2 (sequence plan s 2) parts.1 }

pub first_lists : (plan : Plan) → first_broken plan ≡ None → ListsRings plan 1
first_lists plan none = lists-rings plan 1 (meets_rings plan none).k6

-- of a used pattern
some-and : (test : ℕ → Bool) (o : Option ℕ) (n : ℕ) → some_and test o ≡ true → o ≡ Some n → test n ≡ true
some-and test o n e is = let it : some_and test (Some n) ≡ true = ap (some_and test) (sym is) ∙ e in it

at-pattern : (plan : Plan) (test : ℕ → Bool) (n : ℕ) → each_pattern plan test ≡ true → 1 ≤ n → n ≤ 16 → is_used plan n ≡ true → test n ≡ true
at-pattern plan test n all from to used =
    under (is_used plan n) (test n) (at-run_from (λ x. not (is_used plan x) || test x) 1 16 n all from (omega arith)) used

given : (test : ℕ → Bool) (o : Option ℕ) → some_and test o ≡ true → (n : ℕ) × ((o ≡ Some n) × (test n ≡ true))
given test None e = cc
given test (Some n) e = (n, (refl, e))

pub whole : (plan : Plan) → first_broken plan ≡ None → (n : ℕ) → 1 ≤ n → n ≤ 16 → is_used plan n ≡ true → IsWhole plan n
whole plan none n from to used =
    let test : is_whole plan n ≡ true = at-pattern plan (is_whole plan) n (meets_parts plan none).k17 from to used in
    let parts = and_parts (nat_lt (offset plan n) (cycle plan n)) _ test in
    let names = and_parts (names_split plan n) _ parts.1 in
    let split = given (λ t. nat_le t 8) (split_of plan n) names.0 in
    let seq = given (λ s. nat_le s 4 && not (is_blank plan s)) (sequence_of plan n) names.1 in
    let within = and_parts (nat_le seq.0 4) _ seq.1.1 in
    record {
      its_sequence = seq.0;
      its_split = split.0;
      in_use = record { from_one = from; within = to; used = used; sequence = seq.1.0; split = split.1.0 };
      sequence_to = grind (arith, nat_tests, within.0);
      split_to = let e : nat_le split.0 8 ≡ true = split.1.1 in grind (arith, nat_tests, e);
      below = grind (arith, nat_tests, parts.0);
    }

-- the sequence that a used pattern names is ordered
blank_or : (plan : Plan) (s : ℕ) → (is_blank plan s || sequence_is_ordered plan s) ≡ true → not (is_blank plan s) ≡ true → sequence_is_ordered plan s ≡ true
blank_or plan s e some = go (is_blank plan s) e some
  where
    go : (b : Bool) → (b || sequence_is_ordered plan s) ≡ true → not b ≡ true → sequence_is_ordered plan s ≡ true
    go true e some = cc
    go false e some = e

ordered-to : (plan : Plan) → MeetsRings plan → (s : ℕ) → 1 ≤ s → s ≤ 4 → not (is_blank plan s) ≡ true → sequence_is_ordered plan s ≡ true
ordered-to plan met s from to some =
    let test : ℕ → Bool = λ x. is_blank plan x || sequence_is_ordered plan x in
    let two = and_parts (test 2) _ met.k7 in
    let three = and_parts (test 3) _ two.1 in
    let four = and_parts (test 4) _ three.1 in
    elim (cases_eq s 1) [
      | inl e ↦ ap (sequence_is_ordered plan) e ∙ met.k6
      | inr n1 ↦ elim (cases_eq s 2) [
        | inl e ↦ blank_or plan s (ap test e ∙ two.0) some
        | inr n2 ↦ elim (cases_eq s 3) [
          | inl e ↦ blank_or plan s (ap test e ∙ three.0) some
          | inr n3 ↦ let e : s ≡ 4 = omega arith in blank_or plan s (ap test e ∙ four.0) some
        ]
      ]
    ]

pub used_lists : (plan : Plan) → first_broken plan ≡ None → (n s t : ℕ) → IsInUse plan n s t → ListsRings plan s
used_lists plan none n s t in-use =
    let test : is_whole plan n ≡ true = at-pattern plan (is_whole plan) n (meets_parts plan none).k17 in-use.from_one in-use.within in-use.used in
    let parts = and_parts (nat_lt (offset plan n) (cycle plan n)) _ test in
    let names = and_parts (names_split plan n) _ parts.1 in
    let it : (nat_le s 4 && not (is_blank plan s)) ≡ true = some-and (λ x. nat_le x 4 && not (is_blank plan x)) (sequence_of plan n) s names.1 in-use.sequence in
    let within = and_parts (nat_le s 4) _ it in
    lists-rings plan s (ordered-to plan (meets_rings plan none) s (from-zero (plan.value PatternSequenceNumber n) s in-use.sequence) (grind (arith, nat_tests, within.0)) within.1)
  where
    from-zero : (v s : ℕ) → unless_zero v ≡ Some s → 1 ≤ s
    from-zero v s e = go (v == 0) refl e
      where
        go : (b : Bool) → (v == 0) ≡ b → (if b then None else Some v) ≡ Some s → 1 ≤ s
        go true is e = cc
        go false is e = grind (arith, nat_tests, is, e)

-- the phases that a list names, where the list's test is passed
compatible : (plan : Plan) (list : ℕ) → names_concurrent plan list ≡ true → AreCompatible plan (names list)
compatible plan list met =
    let at : (p : ℕ) → IsPhase plan p → names list p ≡ true → (is_enabled plan p && goes_with_all plan list p) ≡ true =
    λ p is named. under (names list p) _ (at-phase plan (λ x. not (names list x) || (is_enabled plan x && goes_with_all plan list x)) p met is) named in
    record {
      enabled = λ p is named. (and_parts (is_enabled plan p) _ (at p is named)).0;
      concurrent = λ p q is also named other-named apart.
          let goes : goes_with_all plan list p ≡ true = (and_parts (is_enabled plan p) _ (at p is named)).1 in
          let either : (p == q || is_concurrent plan p q) ≡ true = under (names list q) _ (at-phase plan (λ x. not (names list x) || (p == x || is_concurrent plan p x)) q goes also) other-named in
          not-same p q (is_concurrent plan p q) either apart;
    }
  where
    not-same : (p q : ℕ) (b : Bool) → (p == q || b) ≡ true → p ≢ q → b ≡ true
    not-same p q true e apart = refl
    not-same p q false e apart = absurd (apart (grind (arith, nat_tests, e)))

dwells-not : (dwell track exit : ℕ) → (not (dwell == 0) || (track == 0 && exit == 0)) ≡ true → dwell ≡ 0 → (track ≡ 0) × (exit ≡ 0)
dwells-not dwell track exit e none =
    let zero : (dwell == 0) ≡ true = grind (arith, nat_tests, none) in
    let rest = and_parts (track == 0) _ (under (dwell == 0) _ e zero) in
    (grind (arith, nat_tests, rest.0), grind (arith, nat_tests, rest.1))

pub preempt_sound : (plan : Plan) → first_broken plan ≡ None → (n : ℕ) → 1 ≤ n → n ≤ plan.counts.preempts → IsPreemptSound plan n
preempt_sound plan none n from to =
    let met : MeetsParts plan = meets_parts plan none in
    let lists : has_concurrent_lists plan n ≡ true = at-run_from (has_concurrent_lists plan) 1 plan.counts.preempts n met.k15 from (omega (arith, to)) in
    let track = and_parts (names_concurrent plan (plan.value PreemptTrackPhase n)) _ lists in
    let dwell = and_parts (names_concurrent plan (plan.value PreemptDwellPhase n)) _ track.1 in
    let empty : dwells_or_is_empty plan n ≡ true = at-run_from (dwells_or_is_empty plan) 1 plan.counts.preempts n met.k16 from (omega (arith, to)) in
    record {
      track = compatible plan (plan.value PreemptTrackPhase n) track.0;
      dwell = compatible plan (plan.value PreemptDwellPhase n) dwell.0;
      exit = compatible plan (plan.value PreemptExitPhase n) dwell.1;
      no_track = λ e. (dwells-not (plan.value PreemptDwellPhase n) (plan.value PreemptTrackPhase n) (plan.value PreemptExitPhase n) empty e).0;
      no_exit = λ e. (dwells-not (plan.value PreemptDwellPhase n) (plan.value PreemptTrackPhase n) (plan.value PreemptExitPhase n) empty e).1;
    }

-- two coordinated phases
end-together : (plan : Plan) (may : Bool) (s t p q : ℕ) → ends_with plan may s t p q ≡ true → EndTogether plan may s t p q
end-together plan may s t p q e =
    let side = and_parts (side_of plan p == side_of plan q) _ e in
    let rest = and_parts (p == q || is_concurrent plan p q) _ side.1 in
    record {
      side = grind (arith, nat_tests, side.0);
      concurrent = λ apart. not-same p q (is_concurrent plan p q) rest.0 apart;
      ends = λ one. same-end may (split_end plan s t p) (split_end plan s t q) rest.1 one;
    }
  where
    same-end : (b : Bool) (m n : ℕ) → (b || m == n) ≡ true → b ≡ false → m ≡ n
    same-end true m n e one = cc
    same-end false m n e one = grind (arith, nat_tests, e)

    not-same : (p q : ℕ) (b : Bool) → (p == q || b) ≡ true → p ≢ q → b ≡ true
    not-same p q true e apart = refl
    not-same p q false e apart = absurd (apart (grind (arith, nat_tests, e)))

pub coordinated : (plan : Plan) → first_broken plan ≡ None → (n s t : ℕ) → IsInUse plan n s t → AreCoordinated plan (leads_and_lags plan n) s t
coordinated plan none n s t in-use =
    let may-end : Bool = leads_and_lags plan n in
    let test : some_and (λ x. some_and (coordinated_agree plan may-end x) (split_of plan n)) (sequence_of plan n) ≡ true =
    at-pattern plan (λ m. some_and (λ x. some_and (coordinated_agree plan (leads_and_lags plan m) x) (split_of plan m)) (sequence_of plan m)) n (meets_parts plan none).k20 in-use.from_one in-use.within in-use.used in
    let inner : some_and (coordinated_agree plan may-end s) (split_of plan n) ≡ true = some-and (λ x. some_and (coordinated_agree plan may-end x) (split_of plan n)) (sequence_of plan n) s test in-use.sequence in
    let agree : coordinated_agree plan may-end s t ≡ true = some-and (coordinated_agree plan may-end s) (split_of plan n) t inner in-use.split in
    let parts = and_parts (has_coordinated plan t) _ agree in
    let found : Passes (is_coordinated plan t) 1 plan.phase_count = some-run_from (is_coordinated plan t) 1 plan.phase_count parts.0 in
    let below : found.one < 1 + plan.phase_count = found.below in
    let each : (p : ℕ) → IsPhase plan p → is_coordinated plan t p ≡ true → coordinates plan may-end s t p ≡ true =
    λ p is named. under (is_coordinated plan t p) _ (at-phase plan (λ x. not (is_coordinated plan t x) || coordinates plan may-end s t x) p parts.1 is) named in
    let may : (p : ℕ) → IsPhase plan p → is_coordinated plan t p ≡ true → may_coordinate plan t p ≡ true = λ p is named. (and_parts (may_coordinate plan t p) _ (each p is named)).0 in
    let rest : (p : ℕ) → IsPhase plan p → is_coordinated plan t p ≡ true → (agrees_with_all plan may-end s t p && has_one_in_each_ring plan t p) ≡ true =
    λ p is named. (and_parts (may_coordinate plan t p) _ (each p is named)).1 in
    record {
      one = found.one;
      is_phase = record { from_one = found.from; within = omega arith };
      is_one = found.passes;
      enabled = λ p is named. (and_parts (is_enabled plan p) _ (may p is named)).0;
      served = λ p is named. is-off (is_omitted plan t p) (and_parts (is_enabled plan p) _ (may p is named)).1;
      together = λ p q is also named other-named.
          let agrees : agrees_with_all plan may-end s t p ≡ true = (and_parts (agrees_with_all plan may-end s t p) _ (rest p is named)).0 in
          end-together plan may-end s t p q (under (is_coordinated plan t q) _ (at-phase plan (λ x. not (is_coordinated plan t x) || ends_with plan may-end s t p x) q agrees also) other-named);
      in_each_ring = λ p r is named from to has.
          let one : has_one_in_each_ring plan t p ≡ true = (and_parts (agrees_with_all plan may-end s t p) _ (rest p is named)).1 in
          let it : (coordinated_count plan t r == 1) ≡ true =
          under (has_phases plan r (side_of plan p)) _ (at-run_from (λ x. not (has_phases plan x (side_of plan p)) || coordinated_count plan t x == 1) 1 2 r one from (omega arith)) has in
          grind (arith, nat_tests, it);
    }

pub permissive : (plan : Plan) → first_broken plan ≡ None → (n : ℕ) → 1 ≤ n → n ≤ 16 → is_used plan n ≡ true → permissive_time plan n < cycle plan n
permissive plan none n from to used =
    let test : nat_lt (permissive_time plan n) (cycle plan n) ≡ true =
    at-pattern plan (λ m. nat_lt (permissive_time plan m) (cycle plan m)) n (meets_extensions plan none).k23 from to used in
    grind (arith, nat_tests, test)

-- ## Arrows and overlaps that trail

-- of an arrow, the rest of its rule
is-right : (n : ℕ) (b : Bool) → (not (n == 2) || b) ≡ true → n ≡ 2 → b ≡ true
is-right n b e two = under (n == 2) b e (grind (arith, nat_tests, two))

-- the turn that its rule finds
turn-of : (plan : Plan) (o : ℕ) (f : Option ℕ) → turns_alone plan o f ≡ true → (t : ℕ) × ((f ≡ Some t) × (turns_alone plan o (Some t) ≡ true))
turn-of plan o None e = cc
turn-of plan o (Some t) e = (t, (refl, e))

-- a phase that a list names, of those that are enabled
named-enabled : (plan : Plan) (list p : ℕ) → names_enabled plan list ≡ true → IsPhase plan p → names list p ≡ true → is_enabled plan p ≡ true
named-enabled plan list p all is named = under (names list p) _ (at-phase plan (λ q. not (names list q) || is_enabled plan q) p all is) named

pub arrow_sound : (plan : Plan) → first_broken plan ≡ None → (o : ℕ) → 1 ≤ o → o ≤ plan.counts.overlaps → plan.value OverlapType o ≡ 2 → IsArrowSound plan o
arrow_sound plan none o from to two =
    let right : points_rightly plan o ≡ true =
    at-run_from (points_rightly plan) 1 plan.counts.overlaps o (meets_overlaps plan none).k28 from (omega (arith, to)) in
    let parts = and_parts (not (includes_none plan o)) (turns_alone plan o (first (is_modifier plan o) (phases plan))) (is-right (plan.value OverlapType o) _ right two) in
    let found = turn-of plan o (first (is_modifier plan o) (phases plan)) parts.1 in
    let alone = and_parts (only_passes plan (is_modifier plan o) found.0) _ found.1.1 in
    let inside : (1 ≤ found.0) × (found.0 < 1 + plan.phase_count) = first-within (is_modifier plan o) 1 plan.phase_count found.0 found.1.0 in
    let is : IsPhase plan found.0 = record { from_one = inside.0; within = omega (arith, inside.1) } in
    let modifies : modifies_rightly plan o ≡ true =
    at-run_from (modifies_rightly plan) 1 plan.counts.overlaps o (meets_extensions plan none).k21 from (omega (arith, to)) in
    let named : names_enabled plan (plan.value OverlapModifierPhases o) ≡ true = (and_parts (names_enabled plan (plan.value OverlapModifierPhases o)) _ modifies).0 in
    let opposes : (p : ℕ) → IsPhase plan p → is_included plan o p ≡ true → (not (p == found.0) && not (is_concurrent plan found.0 p)) ≡ true =
    λ p has on. under (is_included plan o p) _ (at-phase plan (λ q. not (is_included plan o q) || (not (q == found.0) && not (is_concurrent plan found.0 q))) p alone.1 has) on in
    record {
      turn = found.0;
      is_phase = is;
      is_first = found.1.0;
      is_only = λ p has on.
          let same : (p == found.0) ≡ true = under (is_modifier plan o p) _ (at-phase plan (λ q. not (is_modifier plan o q) || q == found.0) p alone.0 has) on in
          grind (arith, nat_tests, same);
      enabled = named-enabled plan (plan.value OverlapModifierPhases o) found.0 named is (first-passes (is_modifier plan o) (phases plan) found.0 found.1.0);
      includes_some = is-off (includes_none plan o) parts.0;
      apart = λ p has on same.
          let other : (p == found.0) ≡ false = is-off (p == found.0) (and_parts (not (p == found.0)) _ (opposes p has on)).0 in
          absurd (grind (arith, nat_tests, other, same));
      opposed = λ p has on. is-off (is_concurrent plan found.0 p) (and_parts (not (p == found.0)) _ (opposes p has on)).1;
    }

pub trail_sound : (plan : Plan) → first_broken plan ≡ None → (o : ℕ) → 1 ≤ o → o ≤ plan.counts.overlaps → plan.value OverlapTrailGreen o ≢ 0 → IsTrailSound plan o
trail_sound plan none o from to some =
    let right : trails_rightly plan o ≡ true =
    at-run_from (trails_rightly plan) 1 plan.counts.overlaps o (meets_overlaps plan none).k29 from (omega (arith, to)) in
    let parts = and_parts (trail_yellow plan o == 0 || nat_le 30 (trail_yellow plan o)) _ right in
    let lit : (not (trail_yellow plan o == 0) && plan.value OverlapType o == 0) ≡ true = has-some (plan.value OverlapTrailGreen o) _ parts.1 some in
    let both = and_parts (not (trail_yellow plan o == 0)) (plan.value OverlapType o == 0) lit in
    record {
      normal = grind (arith, nat_tests, both.1);
      yellow = is-long (trail_yellow plan o) parts.0 both.0;
    }
  where
    has-some : (n : ℕ) (b : Bool) → (n == 0 || b) ≡ true → n ≢ 0 → b ≡ true
    has-some n true e some = refl
    has-some n false e some = absurd (some (grind (arith, nat_tests, e)))

    is-long : (y : ℕ) → (y == 0 || nat_le 30 y) ≡ true → not (y == 0) ≡ true → 30 ≤ y
    is-long y e some = grind (arith, nat_tests, e, some)
