-- What a plan of version 1 gives of phases beyond the eighth, and where the wide plan has the values of its rows.
use Rattle.std.proofs.Common.{◌≡◌, ℕ, ◌+◌, ◌-◌, ◌*◌, ◌/◌, ◌%◌, ◌≤◌, ◌==◌, nat_le, nat_lt, Bool, true, false, ◌&&◌, List, [], ◌∷◌, ◌++◌, None, refl, arith, ◌∙◌, ap, inl, inr, sum_by, map}
use Rattle.std.specs.List.{list_all, list_any}
use Rattle.std.proofs.lemmas.Bool.{cases_Bool}
use Rattle.std.proofs.lemmas.Bool.Decides.{nat_tests}
use Rattle.tsb_step.specs.tsb_types.Lists.{first, run_from}
use Rattle.tsb_step.specs.tsb_types.Sets.{names}
use Rattle.tsb_step.proofs.tsb_types.SetLemmas.{names-above}
use Rattle.tsb_step.specs.tsb_plan.declared.object.Object.TheVariants.{PhaseEnabled, PhaseRing, PhaseConcurrency, SplitTime, SplitMode, SplitCoordPhase, SequenceData, CoordForceMode, CoordMaximumMode, PatternPermissiveTime, PhasePedestrianRecycle, CoordCorrectionMode, CoordCorrectionLimit, CoordReference}
use Rattle.tsb_step.specs.tsb_plan.declared.plan.patterns.CorrectionMode.TheVariants.{AtOnce}
use Rattle.tsb_step.specs.tsb_plan.Plan.{Plan, phases, is_enabled, is_concurrent, recycles_walk, sequence}
use Rattle.tsb_step.specs.tsb_plan.Parts.{offset, offset_reference_of, forces_late, floats, correction_mode, permissive_time, split_index, mode_of, split_time, split_mode, is_omitted, is_coordinated}
use Rattle.tsb_step.specs.tsb_plan.Running.{maximum_by_mode}
use Rattle.tsb_step.specs.tsb_objects.Instants.{reference, end_within, counted_to, offset_from, offset_in_effect}
use Rattle.tsb_step.specs.tsb_ring.Rings.{Ring, Ring1, Ring2, in_ring}
use Rattle.tsb_laws.specs.Widened.{IsNarrow, widened, widened_row}
use Rattle.tsb_laws.proofs.versions.ListLemmas.{is_narrow, is_beyond, IsSameOnNarrow, IsBeyondNarrow, first-phases, any-phases, all-phases, sum-phases}

-- ## Numbers

pub narrow-bounds : (p : ℕ) → is_narrow p ≡ true → (1 ≤ p) × (p ≤ 8)
narrow-bounds p e = (grind (arith, nat_tests, e), grind (arith, nat_tests, e))

pub beyond-bound : (p : ℕ) → is_beyond p ≡ true → (9 ≤ p) × (p ≤ 16)
beyond-bound p e = (grind (arith, nat_tests, e), grind (arith, nat_tests, e))

-- what is beyond the eighth is not among the eight
pub beyond-narrow : (p : ℕ) → is_beyond p ≡ true → is_narrow p ≡ false
beyond-narrow p e = grind (arith, nat_tests, e)

-- ## Lists over all phases

pub first-same : (plan : Plan) (same test : ℕ → Bool) → IsNarrow plan → IsSameOnNarrow same test → IsBeyondNarrow same false →
    first same (phases (widened plan)) ≡ first test (phases plan)
first-same plan same test narrow within beyond = rw narrow.phase_count (first-phases same test within beyond)

pub any-same : (plan : Plan) (same test : ℕ → Bool) → IsNarrow plan → IsSameOnNarrow same test → IsBeyondNarrow same false →
    list_any same (phases (widened plan)) ≡ list_any test (phases plan)
any-same plan same test narrow within beyond = rw narrow.phase_count (any-phases same test within beyond)

pub all-same : (plan : Plan) (same test : ℕ → Bool) → IsNarrow plan → IsSameOnNarrow same test → IsBeyondNarrow same true →
    list_all same (phases (widened plan)) ≡ list_all test (phases plan)
all-same plan same test narrow within beyond = rw narrow.phase_count (all-phases same test within beyond)

pub sum-same : (plan : Plan) (same test : ℕ → ℕ) → IsNarrow plan → IsSameOnNarrow same test → IsBeyondNarrow same 0 →
    sum_by same (phases (widened plan)) ≡ sum_by test (phases plan)
sum-same plan same test narrow within beyond = rw narrow.phase_count (sum-phases same test within beyond)

-- ## Phases beyond the eighth

pub not-enabled : (plan : Plan) (p : ℕ) → IsNarrow plan → is_narrow p ≡ false → is_enabled plan p ≡ false
not-enabled plan p narrow out = rw (narrow.placed PhaseEnabled p out) refl

pub enabled-narrow : (plan : Plan) (p : ℕ) → IsNarrow plan → is_enabled plan p ≡ true → is_narrow p ≡ true
enabled-narrow plan p narrow on =
    elim (cases_Bool (is_narrow p)) [
      | inl e ↦ e
      | inr e ↦ (let no : false ≡ true = rw (not-enabled plan p narrow e) at on in absurd cc)
    ]

pub not-in_ring : (plan : Plan) (r : Ring) (p : ℕ) → IsNarrow plan → is_narrow p ≡ false → in_ring plan r p ≡ false
not-in_ring plan Ring1 p narrow out = rw (narrow.placed PhaseRing p out) refl
not-in_ring plan Ring2 p narrow out = rw (narrow.placed PhaseRing p out) refl

pub in_ring-narrow : (plan : Plan) (r : Ring) (p : ℕ) → IsNarrow plan → in_ring plan r p ≡ true → is_narrow p ≡ true
in_ring-narrow plan r p narrow on =
    elim (cases_Bool (is_narrow p)) [
      | inl e ↦ e
      | inr e ↦ (let no : false ≡ true = rw (not-in_ring plan r p narrow e) at on in absurd cc)
    ]

-- a list of version 1 names none of them
pub names-none : (list p : ℕ) → list ≤ 255 → is_beyond p ≡ true → names list p ≡ false
names-none list p few beyond = names-above 8 p list (omega arith) (beyond-bound p beyond).0

pub not-concurrent : (plan : Plan) (p q : ℕ) → IsNarrow plan → is_beyond q ≡ true → is_concurrent plan p q ≡ false
not-concurrent plan p q narrow beyond = names-none (plan.value PhaseConcurrency p) q (narrow.bounded PhaseConcurrency p) beyond

-- ## Rows

-- a place of a row of version 1
row-place : (v : ℕ → ℕ) (row p : ℕ) → 1 ≤ p → p ≤ 8 → widened_row v (16 * row + p) ≡ v (8 * row + p)
row-place v row p from to =
    let at : nat_le 1 (16 * row + p) && nat_lt ((16 * row + p - 1) % 16) 8 ≡ true = grind (arith, nat_tests) in
    let index : 8 * ((16 * row + p - 1) / 16) + (16 * row + p - 1) % 16 + 1 ≡ 8 * row + p = omega arith in
    rw (at, index) refl

-- the places after them
row-behind : (v : ℕ → ℕ) (row p : ℕ) → 9 ≤ p → p ≤ 16 → widened_row v (16 * row + p) ≡ 0
row-behind v row p from to =
    let at : nat_le 1 (16 * row + p) && nat_lt ((16 * row + p - 1) % 16) 8 ≡ false = grind (arith, nat_tests) in
    rw at refl

pub split-value : (plan : Plan) (v : ℕ → ℕ) (t p : ℕ) → IsNarrow plan → is_narrow p ≡ true →
    widened_row v (16 * (t - 1) + p) ≡ v (split_index plan t p)
split-value plan v t p narrow in_it =
    let b : (1 ≤ p) × (p ≤ 8) = narrow-bounds p in_it in
    rw narrow.phase_count (row-place v (t - 1) p b.0 b.1)

pub split-behind : (v : ℕ → ℕ) (t p : ℕ) → is_beyond p ≡ true → widened_row v (16 * (t - 1) + p) ≡ 0
split-behind v t p out = row-behind v (t - 1) p (beyond-bound p out).0 (beyond-bound p out).1

pub split_time-same : (plan : Plan) (t p : ℕ) → IsNarrow plan → is_narrow p ≡ true → split_time (widened plan) t p ≡ split_time plan t p
split_time-same plan t p narrow in_it = ap (λ n. 10 * n) (split-value plan (plan.value SplitTime) t p narrow in_it)

pub split_mode-same : (plan : Plan) (t p : ℕ) → IsNarrow plan → is_narrow p ≡ true → split_mode (widened plan) t p ≡ split_mode plan t p
split_mode-same plan t p narrow in_it = ap mode_of (split-value plan (plan.value SplitMode) t p narrow in_it)

pub is_omitted-same : (plan : Plan) (t p : ℕ) → IsNarrow plan → is_narrow p ≡ true → is_omitted (widened plan) t p ≡ is_omitted plan t p
is_omitted-same plan t p narrow in_it = ap (λ n. n == 5) (split-value plan (plan.value SplitMode) t p narrow in_it)

pub is_coordinated-same : (plan : Plan) (t p : ℕ) → IsNarrow plan → is_narrow p ≡ true →
    is_coordinated (widened plan) t p ≡ is_coordinated plan t p
is_coordinated-same plan t p narrow in_it = ap (λ n. n == 1) (split-value plan (plan.value SplitCoordPhase) t p narrow in_it)

pub not-coordinated : (plan : Plan) (t p : ℕ) → is_beyond p ≡ true → is_coordinated (widened plan) t p ≡ false
not-coordinated plan t p out = ap (λ n. n == 1) (split-behind (plan.value SplitCoordPhase) t p out)

-- ## Options of coordination: version 1 has none of them

-- force-off is never late, and does not float
pub not-late : (plan : Plan) → IsNarrow plan → forces_late plan ≡ false
not-late plan narrow = rw (narrow.placed CoordForceMode 1 refl) refl

pub not-floating : (plan : Plan) → IsNarrow plan → floats plan ≡ false
not-floating plan narrow = rw (narrow.placed CoordForceMode 1 refl) refl

-- no maximum acts in a pattern
pub no-maximum_mode : (plan : Plan) (p : ℕ) → IsNarrow plan → maximum_by_mode plan p ≡ None
no-maximum_mode plan p narrow = rw (narrow.placed CoordMaximumMode 1 refl) refl

-- a coordinated phase is forced off at its instant alone
pub no-permissive_time : (plan : Plan) (n : ℕ) → IsNarrow plan → permissive_time plan n ≡ 0
no-permissive_time plan n narrow = rw (narrow.placed PatternPermissiveTime n refl) refl

-- no phase walks again within its green
pub no-second_walk : (plan : Plan) (p : ℕ) → IsNarrow plan → recycles_walk plan p ≡ false
no-second_walk plan p narrow = rw (narrow.placed PhasePedestrianRecycle p refl) refl

-- offsets are counted to local 0
pub plain-offset : (plan : Plan) (n : ℕ) → IsNarrow plan → offset_in_effect plan n ≡ offset plan n
plain-offset plan n narrow =
    ap (λ (v : ℕ). offset_from plan n (counted_to (offset_reference_of v) plan n) (end_within plan n (reference plan n)))
    (narrow.placed CoordReference 1 refl)

-- and in the wide plan
pub wide-offset : (plan : Plan) (n : ℕ) → IsNarrow plan → offset_in_effect (widened plan) n ≡ offset plan n
wide-offset plan n narrow =
    ap (λ (v : ℕ). offset_from (widened plan) n (counted_to (offset_reference_of v) (widened plan) n) (end_within (widened plan) n (reference (widened plan) n)))
    (narrow.placed CoordReference 1 refl)

-- the local counter comes into step at once
pub at-once : (plan : Plan) → IsNarrow plan → correction_mode plan ≡ AtOnce
at-once plan narrow = rw (narrow.placed CoordCorrectionMode 1 refl, narrow.placed CoordCorrectionLimit 1 refl) refl

-- ## Sequences

place-same : (v : ℕ → ℕ) (s r k : ℕ) → 1 ≤ k → k ≤ 8 → widened_row v (32 * (s - 1) + 16 * (r - 1) + k) ≡ v (16 * (s - 1) + 8 * (r - 1) + k)
place-same v s r k from to =
    let wide : 32 * (s - 1) + 16 * (r - 1) + k ≡ 16 * (2 * (s - 1) + (r - 1)) + k = omega arith in
    let narrow : 8 * (2 * (s - 1) + (r - 1)) + k ≡ 16 * (s - 1) + 8 * (r - 1) + k = omega arith in
    ap (widened_row v) wide ∙ row-place v (2 * (s - 1) + (r - 1)) k from to ∙ ap v narrow

place-behind : (v : ℕ → ℕ) (s r k : ℕ) → 9 ≤ k → k ≤ 16 → widened_row v (32 * (s - 1) + 16 * (r - 1) + k) ≡ 0
place-behind v s r k from to =
    let wide : 32 * (s - 1) + 16 * (r - 1) + k ≡ 16 * (2 * (s - 1) + (r - 1)) + k = omega arith in
    ap (widened_row v) wide ∙ row-behind v (2 * (s - 1) + (r - 1)) k from to

-- the eight places with nothing
abbrev pub zeros : List ℕ
zeros = 0 ∷ 0 ∷ 0 ∷ 0 ∷ 0 ∷ 0 ∷ 0 ∷ 0 ∷ []

places : (v : ℕ → ℕ) (s r : ℕ) →
    map (λ k. widened_row v (32 * (s - 1) + 16 * (r - 1) + k)) (run_from 1 16)
    ≡ map (λ k. v (16 * (s - 1) + 8 * (r - 1) + k)) (run_from 1 8) ++ zeros
unfolding run_from
places v s r =
    cc (
      place-same v s r 1 (omega arith) (omega arith),
      place-same v s r 2 (omega arith) (omega arith),
      place-same v s r 3 (omega arith) (omega arith),
      place-same v s r 4 (omega arith) (omega arith),
      place-same v s r 5 (omega arith) (omega arith),
      place-same v s r 6 (omega arith) (omega arith),
      place-same v s r 7 (omega arith) (omega arith),
      place-same v s r 8 (omega arith) (omega arith),
      place-behind v s r 9 (omega arith) (omega arith),
      place-behind v s r 10 (omega arith) (omega arith),
      place-behind v s r 11 (omega arith) (omega arith),
      place-behind v s r 12 (omega arith) (omega arith),
      place-behind v s r 13 (omega arith) (omega arith),
      place-behind v s r 14 (omega arith) (omega arith),
      place-behind v s r 15 (omega arith) (omega arith),
      place-behind v s r 16 (omega arith) (omega arith),
    )

-- a sequence of the wide plan is that of the narrow one with zeros after it
pub sequence-same : (plan : Plan) (s r : ℕ) → IsNarrow plan → sequence (widened plan) s r ≡ sequence plan s r ++ zeros
sequence-same plan s r narrow = rw narrow.phase_count (places (plan.value SequenceData) s r)
