-- The wide plan breaks the rule that the narrow one breaks first, or none with it.
use Rattle.std.proofs.Common.{◌≡◌, ℕ, ◌≤◌, ◌==◌, nat_le, Bool, true, false, not, ◌&&◌, ◌||◌, None, refl, arith, sym, ◌∙◌, ap}
use Rattle.std.specs.List.{list_all}
use Rattle.std.proofs.Math.Path.{fun_ext}
use Rattle.std.proofs.lemmas.Bool.Decides.{nat_tests}
use Rattle.tsb_step.specs.tsb_types.Lists.{first, run_from}
use Rattle.tsb_step.specs.tsb_types.Sets.{names}
use Rattle.tsb_step.proofs.tsb_types.SetLemmas.{names-zero}
use Rattle.tsb_step.specs.tsb_plan.declared.object.Object.TheVariants.{PhaseSide, PhaseConcurrency, OverlapIncludedPhases, OverlapModifierPhases, OverlapType, PreemptTrackPhase, PreemptDwellPhase, PreemptExitPhase}
use Rattle.tsb_step.specs.tsb_plan.Parts.{includes_none, is_modifier}
use Rattle.tsb_step.specs.tsb_plan.Plan.{Plan, phases, is_enabled, ring_of, side_of, is_concurrent}
use Rattle.tsb_step.specs.tsb_rules.declared.rules.Rule.TheVariants.{K28, K29}
use Rattle.tsb_step.specs.tsb_rules.Rules.{unless, turns_alone, points_rightly, arrows_are_right, trails_are_right, some_enabled, is_placed, are_placed, unused_lists_are_empty, may_be_concurrent, names_across_rings, lists_name_across_rings, is_named_back, concurrency_is_symmetric, yellows_are_long, gaps_can_reduce, reaches_minimum, maximums_reach_minimums, recalled_pedestrians_walk, names_enabled, included_phases_are_enabled, goes_with_all, names_concurrent, has_concurrent_lists, preempts_are_concurrent, modifies_rightly, modifiers_are_right, limits_reach_minimums, broken_by_rings, broken_by_phases, broken_by_parts, broken_by_extensions, broken_by_schedule, broken_by_overlaps, first_broken}
use Rattle.tsb_laws.specs.Widened.{IsNarrow, widened}
use Rattle.tsb_laws.proofs.versions.PlanLemmas.{any-same, all-same, beyond-narrow, not-enabled, names-none, not-concurrent}
use Rattle.tsb_laws.proofs.versions.SequenceLemmas.{each_phase-same, first_sequence-same, other_sequences-same}
use Rattle.tsb_laws.proofs.versions.PatternLemmas.{whole-same, holding-same, filling-same, coordinating-same, permissive-same}
use Rattle.tsb_laws.proofs.operation.pattern.OptionLemmas.{all_hold}

-- ## Rings, sides and concurrency

some_enabled-same : (plan : Plan) → IsNarrow plan → some_enabled (widened plan) ≡ some_enabled plan
some_enabled-same plan narrow =
    any-same plan (is_enabled plan) (is_enabled plan) narrow (λ p in_it. refl) (λ p out. not-enabled plan p narrow (beyond-narrow p out))

is_placed-same : (plan : Plan) (p : ℕ) → IsNarrow plan → is_placed (widened plan) p ≡ is_placed plan p
is_placed-same plan p narrow =
    ap (λ b. (ring_of plan p == 1 || ring_of plan p == 2) && (nat_le 1 (side_of plan p) && b)) (within (narrow.bounded PhaseSide p))
  where
    within : plan.value PhaseSide p ≤ 2 → nat_le (side_of plan p) 4 ≡ nat_le (side_of plan p) plan.side_count
    within low =
        let wide : nat_le (plan.value PhaseSide p) 4 ≡ true = grind (arith, nat_tests) in
        let few : nat_le (plan.value PhaseSide p) 2 ≡ true = grind (arith, nat_tests) in
        wide ∙ sym few ∙ ap (λ n. nat_le (side_of plan p) n) (sym narrow.side_count)

are_placed-same : (plan : Plan) → IsNarrow plan → are_placed (widened plan) ≡ are_placed plan
are_placed-same plan narrow =
    each_phase-same plan (is_placed (widened plan)) (is_placed plan) narrow (λ p in_it. is_placed-same plan p narrow)

unused-same : (plan : Plan) → IsNarrow plan → unused_lists_are_empty (widened plan) ≡ unused_lists_are_empty plan
unused-same plan narrow =
    all-same plan (λ p. is_enabled plan p || plan.value PhaseConcurrency p == 0) (λ p. is_enabled plan p || plan.value PhaseConcurrency p == 0) narrow
    (λ p in_it. refl)
    (λ p out. rw (not-enabled plan p narrow (beyond-narrow p out), narrow.placed PhaseConcurrency p (beyond-narrow p out)) refl)

across-same : (plan : Plan) (p : ℕ) → IsNarrow plan → names_across_rings (widened plan) p ≡ names_across_rings plan p
across-same plan p narrow =
    all-same plan (λ q. not (is_concurrent plan p q) || may_be_concurrent plan p q) (λ q. not (is_concurrent plan p q) || may_be_concurrent plan p q)
    narrow (λ q in_it. refl) (λ q out. rw (not-concurrent plan p q narrow out) refl)

all_across-same : (plan : Plan) → IsNarrow plan → lists_name_across_rings (widened plan) ≡ lists_name_across_rings plan
all_across-same plan narrow =
    each_phase-same plan (names_across_rings (widened plan)) (names_across_rings plan) narrow (λ p in_it. across-same plan p narrow)

named_back-same : (plan : Plan) (p : ℕ) → IsNarrow plan → is_named_back (widened plan) p ≡ is_named_back plan p
named_back-same plan p narrow =
    all-same plan (λ q. not (is_concurrent plan p q) || is_concurrent plan q p) (λ q. not (is_concurrent plan p q) || is_concurrent plan q p)
    narrow (λ q in_it. refl) (λ q out. rw (not-concurrent plan p q narrow out) refl)

-- a phase with an empty list is named back
empty-named_back : (plan : Plan) (p : ℕ) → plan.value PhaseConcurrency p ≡ 0 → is_named_back plan p ≡ true
empty-named_back plan p empty =
    all_hold (λ q. not (is_concurrent plan p q) || is_concurrent plan q p) (phases plan) (λ q. at q (ap (λ n. names n q) empty ∙ names-zero q))
  where
    at : (q : ℕ) → is_concurrent plan p q ≡ false → (not (is_concurrent plan p q) || is_concurrent plan q p) ≡ true
    at q e = rw e refl

symmetric-same : (plan : Plan) → IsNarrow plan → concurrency_is_symmetric (widened plan) ≡ concurrency_is_symmetric plan
symmetric-same plan narrow =
    all-same plan (is_named_back (widened plan)) (is_named_back plan) narrow (λ p in_it. named_back-same plan p narrow)
    (λ p out. named_back-same plan p narrow ∙ empty-named_back plan p (narrow.placed PhaseConcurrency p (beyond-narrow p out)))

broken_by_rings-same : (plan : Plan) → IsNarrow plan → broken_by_rings (widened plan) ≡ broken_by_rings plan
unfolding broken_by_rings
broken_by_rings-same plan narrow =
    rw (
      some_enabled-same plan narrow,
      are_placed-same plan narrow,
      unused-same plan narrow,
      all_across-same plan narrow,
      symmetric-same plan narrow,
      first_sequence-same plan narrow,
      other_sequences-same plan narrow,
    ) refl

-- ## Times and calls of phases

yellows-same : (plan : Plan) → IsNarrow plan → yellows_are_long (widened plan) ≡ yellows_are_long plan
yellows-same plan narrow = each_phase-same plan _ _ narrow (λ p in_it. refl)

gaps-same : (plan : Plan) → IsNarrow plan → gaps_can_reduce (widened plan) ≡ gaps_can_reduce plan
gaps-same plan narrow = each_phase-same plan _ _ narrow (λ p in_it. refl)

maximums-same : (plan : Plan) → IsNarrow plan → maximums_reach_minimums (widened plan) ≡ maximums_reach_minimums plan
maximums-same plan narrow = each_phase-same plan (reaches_minimum plan) (reaches_minimum plan) narrow (λ p in_it. refl)

walks-same : (plan : Plan) → IsNarrow plan → recalled_pedestrians_walk (widened plan) ≡ recalled_pedestrians_walk plan
walks-same plan narrow = each_phase-same plan _ _ narrow (λ p in_it. refl)

broken_by_phases-same : (plan : Plan) → IsNarrow plan → broken_by_phases (widened plan) ≡ broken_by_phases plan
unfolding broken_by_phases
broken_by_phases-same plan narrow =
    rw (yellows-same plan narrow, gaps-same plan narrow, maximums-same plan narrow, walks-same plan narrow) refl

-- ## Overlaps, preempts and patterns

names_enabled-same : (plan : Plan) (list : ℕ) → IsNarrow plan → list ≤ 255 → names_enabled (widened plan) list ≡ names_enabled plan list
names_enabled-same plan list narrow few =
    all-same plan (λ p. not (names list p) || is_enabled plan p) (λ p. not (names list p) || is_enabled plan p) narrow
    (λ p in_it. refl) (λ p out. rw (names-none list p few out) refl)

included-same : (plan : Plan) → IsNarrow plan → included_phases_are_enabled (widened plan) ≡ included_phases_are_enabled plan
included-same plan narrow =
    ap (λ (test : ℕ → Bool). list_all test (run_from 1 plan.counts.overlaps))
    (fun_ext (λ o. names_enabled-same plan (plan.value OverlapIncludedPhases o) narrow (narrow.bounded OverlapIncludedPhases o)))

goes_with_all-same : (plan : Plan) (list p : ℕ) → IsNarrow plan → list ≤ 255 → goes_with_all (widened plan) list p ≡ goes_with_all plan list p
goes_with_all-same plan list p narrow few =
    all-same plan (λ q. not (names list q) || (p == q || is_concurrent plan p q)) (λ q. not (names list q) || (p == q || is_concurrent plan p q)) narrow
    (λ q in_it. refl) (λ q out. rw (names-none list q few out) refl)

names_concurrent-same : (plan : Plan) (list : ℕ) → IsNarrow plan → list ≤ 255 → names_concurrent (widened plan) list ≡ names_concurrent plan list
names_concurrent-same plan list narrow few =
    all-same plan (λ p. not (names list p) || (is_enabled plan p && goes_with_all (widened plan) list p))
    (λ p. not (names list p) || (is_enabled plan p && goes_with_all plan list p)) narrow
    (λ p in_it. rw (goes_with_all-same plan list p narrow few) refl) (λ p out. rw (names-none list p few out) refl)

concurrent_lists-same : (plan : Plan) (n : ℕ) → IsNarrow plan → has_concurrent_lists (widened plan) n ≡ has_concurrent_lists plan n
concurrent_lists-same plan n narrow =
    rw (
      names_concurrent-same plan (plan.value PreemptTrackPhase n) narrow (narrow.bounded PreemptTrackPhase n),
      names_concurrent-same plan (plan.value PreemptDwellPhase n) narrow (narrow.bounded PreemptDwellPhase n),
      names_concurrent-same plan (plan.value PreemptExitPhase n) narrow (narrow.bounded PreemptExitPhase n),
    ) refl

preempts-same : (plan : Plan) → IsNarrow plan → preempts_are_concurrent (widened plan) ≡ preempts_are_concurrent plan
preempts-same plan narrow =
    ap (λ (test : ℕ → Bool). list_all test (run_from 1 plan.counts.preempts)) (fun_ext (λ n. concurrent_lists-same plan n narrow))

broken_by_parts-same : (plan : Plan) → IsNarrow plan → broken_by_parts (widened plan) ≡ broken_by_parts plan
unfolding broken_by_parts
broken_by_parts-same plan narrow =
    rw (
      included-same plan narrow,
      preempts-same plan narrow,
      whole-same plan narrow,
      holding-same plan narrow,
      filling-same plan narrow,
      coordinating-same plan narrow,
    ) refl

-- ## What version 1 has not

modifiers-same : (plan : Plan) → IsNarrow plan → modifiers_are_right (widened plan) ≡ modifiers_are_right plan
modifiers-same plan narrow =
    ap (λ (test : ℕ → Bool). list_all test (run_from 1 plan.counts.overlaps)) (fun_ext (λ o. at o (narrow.placed OverlapModifierPhases o refl)))
  where
    at : (o : ℕ) → plan.value OverlapModifierPhases o ≡ 0 → modifies_rightly (widened plan) o ≡ modifies_rightly plan o
    at o none = rw (names_enabled-same plan (plan.value OverlapModifierPhases o) narrow (rw none (omega arith))) refl

limits-same : (plan : Plan) → IsNarrow plan → limits_reach_minimums (widened plan) ≡ limits_reach_minimums plan
limits-same plan narrow = each_phase-same plan _ _ narrow (λ p in_it. refl)

broken_by_extensions-same : (plan : Plan) → IsNarrow plan → broken_by_extensions (widened plan) ≡ broken_by_extensions plan
unfolding broken_by_extensions
broken_by_extensions-same plan narrow = rw (modifiers-same plan narrow, limits-same plan narrow, permissive-same plan narrow) refl

broken_by_schedule-same : (plan : Plan) → broken_by_schedule (widened plan) ≡ broken_by_schedule plan
unfolding broken_by_schedule
broken_by_schedule-same plan = refl

-- without arrows K28 asks for nothing
points-rightly : (plan : Plan) (o : ℕ) → plan.value OverlapType o ≡ 0 → points_rightly plan o ≡ true
points-rightly plan o none =
    ap (λ (t : ℕ). not (t == 2) || (not (includes_none plan o) && turns_alone plan o (first (is_modifier plan o) (phases plan)))) none

arrows-same : (plan : Plan) → IsNarrow plan → arrows_are_right (widened plan) ≡ arrows_are_right plan
arrows-same plan narrow =
    ap (λ (test : ℕ → Bool). list_all test (run_from 1 plan.counts.overlaps))
    (fun_ext (λ o. points-rightly (widened plan) o (narrow.placed OverlapType o refl) ∙ sym (points-rightly plan o (narrow.placed OverlapType o refl))))

broken_by_overlaps-same : (plan : Plan) → IsNarrow plan → broken_by_overlaps (widened plan) ≡ broken_by_overlaps plan
unfolding broken_by_overlaps
broken_by_overlaps-same plan narrow =
    ap (λ (b : Bool). unless b K28 (unless (trails_are_right plan) K29 None)) (arrows-same plan narrow)

-- ## All rules

pub first_broken-same : (plan : Plan) → IsNarrow plan → first_broken (widened plan) ≡ first_broken plan
unfolding first_broken
first_broken-same plan narrow =
    rw (
      broken_by_rings-same plan narrow,
      broken_by_phases-same plan narrow,
      broken_by_parts-same plan narrow,
      broken_by_extensions-same plan narrow,
      broken_by_schedule-same plan,
      broken_by_overlaps-same plan narrow,
    ) refl
