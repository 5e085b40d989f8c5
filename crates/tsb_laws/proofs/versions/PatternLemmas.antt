-- Patterns of the wide plan meet the rules where those of the narrow one do.
use Rattle.std.proofs.Common.{◌≡◌, ℕ, ◌≤◌, ◌==◌, nat_le, nat_lt, Bool, true, false, not, ◌&&◌, ◌||◌, if◌then◌else◌, List, [], ◌∷◌, refl, arith, sym, ◌∙◌, ap, ap₂, sum_by}
use Rattle.std.specs.List.{list_all, list_any}
use Rattle.std.proofs.Math.Path.{fun_ext}
use Rattle.std.proofs.lemmas.Bool.Decides.{nat_tests}
use Rattle.std.proofs.lemmas.List.Sums.{sum_by-cons}
use Rattle.tsb_step.specs.tsb_types.Lists.{run_from}
use Rattle.tsb_step.specs.tsb_plan.declared.object.Object.TheVariants.{PhaseSide}
use Rattle.tsb_step.specs.tsb_plan.Parts.{is_used, split_of, sequence_of, is_coordinated, cycle, permissive_time, leads_and_lags}
use Rattle.tsb_step.specs.tsb_plan.Plan.{Plan, phases, is_enabled, ring_of, side_of}
use Rattle.tsb_step.specs.tsb_rules.PatternRules.{some_and, each_pattern, names_sequence, is_whole, patterns_are_whole, holds_phase, holds_phases, splits_hold_phases, is_on, has_phases, split_on, split_sum, side_sum, rings_agree, rings_agree_on_sides, fills, splits_fill_cycles, ends_with, agrees_with_all, is_coordinated_in, coordinated_count, has_one_in_each_ring, coordinates, has_coordinated, all_coordinate, coordinated_agree, coordinated_phases_agree, permissive_times_end}
use Rattle.tsb_laws.specs.Widened.{IsNarrow, widened}
use Rattle.tsb_laws.proofs.versions.ListLemmas.{is_narrow}
use Rattle.tsb_laws.proofs.versions.PlanLemmas.{any-same, all-same, sum-same, split_time-same, is_omitted-same, is_coordinated-same, not-coordinated}
use Rattle.tsb_laws.proofs.versions.CoordLemmas.{has_phases-same, split_sum-same, side_sum-same, split_end-same}
use Rattle.tsb_laws.proofs.versions.SequenceLemmas.{each_phase-same, is_blank-same}

each_pattern-same : (plan : Plan) (same test : ℕ → Bool) → ((n : ℕ) → same n ≡ test n) → each_pattern (widened plan) same ≡ each_pattern plan test
each_pattern-same plan same test agree =
    ap (λ (f : ℕ → Bool). list_all f (run_from 1 16)) (fun_ext (λ n. ap (λ b. not (is_used plan n) || b) (agree n)))

-- ## Patterns and the splits of phases

pub whole-same : (plan : Plan) → IsNarrow plan → patterns_are_whole (widened plan) ≡ patterns_are_whole plan
whole-same plan narrow = each_pattern-same plan (is_whole (widened plan)) (is_whole plan) (λ n. rw (named n) refl)
  where
    named : (n : ℕ) → names_sequence (widened plan) n ≡ names_sequence plan n
    named n = ap (λ (f : ℕ → Bool). some_and f (sequence_of plan n)) (fun_ext (λ s. ap (λ b. nat_le s 4 && not b) (is_blank-same plan s narrow)))

holds_phases-same : (plan : Plan) (t : ℕ) → IsNarrow plan → holds_phases (widened plan) t ≡ holds_phases plan t
holds_phases-same plan t narrow =
    each_phase-same plan (holds_phase (widened plan) t) (holds_phase plan t) narrow
    (λ p in_it. rw (is_omitted-same plan t p narrow in_it, split_time-same plan t p narrow in_it) refl)

pub holding-same : (plan : Plan) → IsNarrow plan → splits_hold_phases (widened plan) ≡ splits_hold_phases plan
holding-same plan narrow =
    each_pattern-same plan (λ n. some_and (holds_phases (widened plan)) (split_of plan n)) (λ n. some_and (holds_phases plan) (split_of plan n))
    (λ n. ap (λ (f : ℕ → Bool). some_and f (split_of plan n)) (fun_ext (λ t. holds_phases-same plan t narrow)))

-- ## The sums of splits

rings_agree-same : (plan : Plan) (t d : ℕ) → IsNarrow plan → rings_agree (widened plan) t d ≡ rings_agree plan t d
rings_agree-same plan t d narrow =
    rw (has_phases-same plan 1 d narrow, has_phases-same plan 2 d narrow, split_sum-same plan t 1 d narrow, split_sum-same plan t 2 d narrow) refl

pub any-never : (test : ℕ → Bool) (ps : List ℕ) → ((p : ℕ) → test p ≡ false) → list_any test ps ≡ false
any-never test [] never = refl
any-never test (p ∷ ps) never = rw (never p) (any-never test ps never)

sum-never : (f : ℕ → ℕ) (ps : List ℕ) → ((p : ℕ) → f p ≡ 0) → sum_by f ps ≡ 0
sum-never f [] never = refl
sum-never f (p ∷ ps) never = rw (sum_by-cons f p ps, never p, sum-never f ps never) refl

-- no phase is on side 3 or 4
not-on : (plan : Plan) (r d p : ℕ) → IsNarrow plan → 3 ≤ d → is_on plan r d p ≡ false
not-on plan r d p narrow high = go (is_enabled plan p) (ring_of plan p == r) (other (narrow.bounded PhaseSide p))
  where
    other : plan.value PhaseSide p ≤ 2 → (plan.value PhaseSide p == d) ≡ false
    other low = grind (arith, nat_tests)

    go : (a b : Bool) → (side_of plan p == d) ≡ false → (a && (b && side_of plan p == d)) ≡ false
    go false b e = refl
    go true false e = refl
    go true true e = e

no-phases : (plan : Plan) (r d : ℕ) → IsNarrow plan → 3 ≤ d → has_phases plan r d ≡ false
no-phases plan r d narrow high = any-never (is_on plan r d) (phases plan) (λ p. not-on plan r d p narrow high)

no-sum : (plan : Plan) (t r d : ℕ) → IsNarrow plan → 3 ≤ d → split_sum plan t r d ≡ 0
unfolding split_sum
no-sum plan t r d narrow high = sum-never (split_on plan t r d) (phases plan) (λ p. rw (not-on plan r d p narrow high) refl)

no-side_sum : (plan : Plan) (t d : ℕ) → IsNarrow plan → 3 ≤ d → side_sum plan t d ≡ 0
unfolding side_sum
no-side_sum plan t d narrow high = rw (no-phases plan 1 d narrow high) (no-sum plan t 2 d narrow high)

agree-beyond : (plan : Plan) (t d : ℕ) → IsNarrow plan → 3 ≤ d → rings_agree plan t d ≡ true
agree-beyond plan t d narrow high = rw (no-phases plan 1 d narrow high) refl

-- a test that sides 3 and 4 pass, and a sum that has nothing of them
all-sides : (test : ℕ → Bool) → test 3 ≡ true → test 4 ≡ true → list_all test (run_from 1 4) ≡ list_all test (run_from 1 2)
unfolding run_from
all-sides test three four = rw (three, four) refl

sum-sides : (f : ℕ → ℕ) → f 3 ≡ 0 → f 4 ≡ 0 → sum_by f (run_from 1 4) ≡ sum_by f (run_from 1 2)
unfolding run_from
sum-sides f three four = rw (three, four) (omega arith)

sides_agree-same : (plan : Plan) (t : ℕ) → IsNarrow plan → rings_agree_on_sides (widened plan) t ≡ rings_agree_on_sides plan t
sides_agree-same plan t narrow =
    ap (λ (test : ℕ → Bool). list_all test (run_from 1 4)) (fun_ext (λ d. rings_agree-same plan t d narrow))
    ∙ all-sides (rings_agree plan t) (agree-beyond plan t 3 narrow (omega arith)) (agree-beyond plan t 4 narrow (omega arith))
    ∙ ap (λ n. list_all (rings_agree plan t) (run_from 1 n)) (sym narrow.side_count)

all_sums-same : (plan : Plan) (t : ℕ) → IsNarrow plan →
    sum_by (side_sum (widened plan) t) (run_from 1 4) ≡ sum_by (side_sum plan t) (run_from 1 plan.side_count)
all_sums-same plan t narrow =
    ap (λ (f : ℕ → ℕ). sum_by f (run_from 1 4)) (fun_ext (λ d. side_sum-same plan t d narrow))
    ∙ sum-sides (side_sum plan t) (no-side_sum plan t 3 narrow (omega arith)) (no-side_sum plan t 4 narrow (omega arith))
    ∙ ap (λ n. sum_by (side_sum plan t) (run_from 1 n)) (sym narrow.side_count)

fills-same : (plan : Plan) (n t : ℕ) → IsNarrow plan → fills (widened plan) n t ≡ fills plan n t
fills-same plan n t narrow =
    ap₂ (λ a m. a && m == cycle plan n) (sides_agree-same plan t narrow) (all_sums-same plan t narrow)

pub filling-same : (plan : Plan) → IsNarrow plan → splits_fill_cycles (widened plan) ≡ splits_fill_cycles plan
filling-same plan narrow =
    each_pattern-same plan (λ n. some_and (fills (widened plan) n) (split_of plan n)) (λ n. some_and (fills plan n) (split_of plan n))
    (λ n. ap (λ (f : ℕ → Bool). some_and f (split_of plan n)) (fun_ext (λ t. fills-same plan n t narrow)))

-- ## Coordinated phases

ends_with-same : (plan : Plan) (apart : Bool) (s t p q : ℕ) → IsNarrow plan → ends_with (widened plan) apart s t p q ≡ ends_with plan apart s t p q
ends_with-same plan apart s t p q narrow = rw (split_end-same plan s t p narrow, split_end-same plan s t q narrow) refl

agrees_with_all-same : (plan : Plan) (apart : Bool) (s t p : ℕ) → IsNarrow plan →
    agrees_with_all (widened plan) apart s t p ≡ agrees_with_all plan apart s t p
agrees_with_all-same plan apart s t p narrow =
    all-same plan (λ q. not (is_coordinated (widened plan) t q) || ends_with (widened plan) apart s t p q)
    (λ q. not (is_coordinated plan t q) || ends_with plan apart s t p q) narrow
    (λ q in_it. ap₂ (λ a b. not a || b) (is_coordinated-same plan t q narrow in_it) (ends_with-same plan apart s t p q narrow))
    (λ q out. rw (not-coordinated plan t q out) refl)

coordinated_count-same : (plan : Plan) (t r : ℕ) → IsNarrow plan → coordinated_count (widened plan) t r ≡ coordinated_count plan t r
unfolding coordinated_count
coordinated_count-same plan t r narrow =
    sum-same plan (λ p. if is_coordinated_in (widened plan) t r p then 1 else 0) (λ p. if is_coordinated_in plan t r p then 1 else 0) narrow
    (λ p in_it. rw (is_coordinated-same plan t p narrow in_it) refl)
    (λ p out. rw (not-coordinated plan t p out) refl)

one_in_each-same : (plan : Plan) (t p : ℕ) → IsNarrow plan → has_one_in_each_ring (widened plan) t p ≡ has_one_in_each_ring plan t p
one_in_each-same plan t p narrow =
    ap (λ (test : ℕ → Bool). list_all test (run_from 1 2))
    (fun_ext (λ r. ap₂ (λ a n. not a || n == 1) (has_phases-same plan r (side_of plan p) narrow) (coordinated_count-same plan t r narrow)))

coordinates-same : (plan : Plan) (apart : Bool) (s t p : ℕ) → IsNarrow plan → is_narrow p ≡ true →
    coordinates (widened plan) apart s t p ≡ coordinates plan apart s t p
coordinates-same plan apart s t p narrow in_it =
    rw (is_omitted-same plan t p narrow in_it, agrees_with_all-same plan apart s t p narrow, one_in_each-same plan t p narrow) refl

has_coordinated-same : (plan : Plan) (t : ℕ) → IsNarrow plan → has_coordinated (widened plan) t ≡ has_coordinated plan t
has_coordinated-same plan t narrow =
    any-same plan (is_coordinated (widened plan) t) (is_coordinated plan t) narrow
    (λ p in_it. is_coordinated-same plan t p narrow in_it) (λ p out. not-coordinated plan t p out)

all_coordinate-same : (plan : Plan) (apart : Bool) (s t : ℕ) → IsNarrow plan → all_coordinate (widened plan) apart s t ≡ all_coordinate plan apart s t
all_coordinate-same plan apart s t narrow =
    all-same plan (λ p. not (is_coordinated (widened plan) t p) || coordinates (widened plan) apart s t p)
    (λ p. not (is_coordinated plan t p) || coordinates plan apart s t p) narrow
    (λ p in_it. ap₂ (λ a b. not a || b) (is_coordinated-same plan t p narrow in_it) (coordinates-same plan apart s t p narrow in_it))
    (λ p out. rw (not-coordinated plan t p out) refl)

coordinated_agree-same : (plan : Plan) (apart : Bool) (s t : ℕ) → IsNarrow plan →
    coordinated_agree (widened plan) apart s t ≡ coordinated_agree plan apart s t
coordinated_agree-same plan apart s t narrow = ap₂ (λ a b. a && b) (has_coordinated-same plan t narrow) (all_coordinate-same plan apart s t narrow)

pub coordinating-same : (plan : Plan) → IsNarrow plan → coordinated_phases_agree (widened plan) ≡ coordinated_phases_agree plan
coordinating-same plan narrow =
    each_pattern-same plan
    (λ n. some_and (λ s. some_and (coordinated_agree (widened plan) (leads_and_lags plan n) s) (split_of plan n)) (sequence_of plan n))
    (λ n. some_and (λ s. some_and (coordinated_agree plan (leads_and_lags plan n) s) (split_of plan n)) (sequence_of plan n))
    (λ n. ap (λ (f : ℕ → Bool). some_and f (sequence_of plan n))
    (fun_ext (λ s. ap (λ (f : ℕ → Bool). some_and f (split_of plan n)) (fun_ext (λ t. coordinated_agree-same plan (leads_and_lags plan n) s t narrow)))))

-- ## Permissive times

pub permissive-same : (plan : Plan) → IsNarrow plan → permissive_times_end (widened plan) ≡ permissive_times_end plan
permissive-same plan narrow =
    each_pattern-same plan (λ n. nat_lt (permissive_time plan n) (cycle plan n)) (λ n. nat_lt (permissive_time plan n) (cycle plan n)) (λ n. refl)
