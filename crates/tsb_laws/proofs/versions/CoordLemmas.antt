-- What runs, and what coordination asks of phases 1 to 8, is the same on the wide plan.
use Rattle.std.proofs.Common.{◌≡◌, ℕ, ◌+◌, ◌-◌, ◌%◌, ◌==◌, nat_le, Bool, true, false, ◌&&◌, ◌++◌, Option, Some, None, refl, sym, ◌∙◌, ap, ap₂, inl, inr, sum_by}
use Rattle.std.proofs.Math.Path.{fun_ext}
use Rattle.std.proofs.lemmas.Bool.{cases_Bool}
use Rattle.tsb_step.specs.tsb_types.Lists.{or_else, run_from, up_to}
use Rattle.tsb_step.specs.tsb_plan.Plan.{Plan, is_enabled, ring_of, side_of, sequence}
use Rattle.tsb_step.specs.tsb_plan.Parts.{cycle, split_of}
use Rattle.tsb_step.specs.tsb_plan.Running.{running, split_in_effect, sequence_in_effect, mode_in, mode_in_effect, coordinates_in, is_coordinated_now, is_omitted_now, is_on_minimum_recall, is_on_maximum_recall, is_on_pedestrian_recall}
use Rattle.tsb_step.specs.tsb_rules.PatternRules.{is_on, has_phases, split_on, split_sum, side_sum, split_before, ring_sequence, split_end}
use Rattle.tsb_step.specs.tsb_coord.Coordinated.{local_in, local, end_in, instant_from, reference, instant_by, force_off, is_at_force_off, asks_force_off, asks_recycle, asks_hold, asks_omit, sequence_now, serving_order}
use Rattle.tsb_step.specs.tsb_objects.Instants.{is_coordinated_in, coordinated_in_ring, first_coordinated}
use Rattle.tsb_step.specs.tsb_coord.declared.correction.Correction.{Correction}
use Rattle.tsb_step.specs.tsb_coord.Correction.{shift_in, clocked, is_in_step, local_now, forces, lets_walk_again, selected_correction}
use Rattle.tsb_step.proofs.tsb_coord.CorrectionLemmas.{forces_in_step, local_in_step, in_step_at_once}
use Rattle.tsb_step.proofs.tsb_coord.LocalLemmas.{options_off}
use Rattle.tsb_laws.specs.Widened.{IsNarrow, widened}
use Rattle.tsb_laws.proofs.operation.pattern.OptionLemmas.{never_recycles, begins_at_once}
use Rattle.tsb_laws.proofs.versions.ListLemmas.{is_narrow, is_beyond, sum-up_to}
use Rattle.tsb_laws.proofs.versions.PlanLemmas.{first-same, any-same, sum-same, beyond-narrow, not-enabled, enabled-narrow, split_time-same, split_mode-same, is_coordinated-same, not-coordinated, not-late, plain-offset, wide-offset, at-once, no-permissive_time, no-second_walk, zeros, sequence-same}

-- ## What runs

pub running-same : (plan : Plan) (selected : Option ℕ) → running (widened plan) selected ≡ running plan selected
running-same plan None = refl
running-same plan (Some n) = refl

pub split_in_effect-same : (plan : Plan) (runs : Option ℕ) → split_in_effect (widened plan) runs ≡ split_in_effect plan runs
split_in_effect-same plan None = refl
split_in_effect-same plan (Some n) = refl

pub sequence_in_effect-same : (plan : Plan) (runs : Option ℕ) → sequence_in_effect (widened plan) runs ≡ sequence_in_effect plan runs
sequence_in_effect-same plan None = refl
sequence_in_effect-same plan (Some n) = refl

mode_in-same : (plan : Plan) (o : Option ℕ) (p : ℕ) → IsNarrow plan → is_narrow p ≡ true → mode_in (widened plan) o p ≡ mode_in plan o p
mode_in-same plan None p narrow in_it = refl
mode_in-same plan (Some t) p narrow in_it = split_mode-same plan t p narrow in_it

pub mode_in_effect-same : (plan : Plan) (runs : Option ℕ) (p : ℕ) → IsNarrow plan → is_narrow p ≡ true →
    mode_in_effect (widened plan) runs p ≡ mode_in_effect plan runs p
mode_in_effect-same plan runs p narrow in_it =
    rw (split_in_effect-same plan runs) (mode_in-same plan (split_in_effect plan runs) p narrow in_it)

coordinates_in-same : (plan : Plan) (o : Option ℕ) (p : ℕ) → IsNarrow plan → is_narrow p ≡ true →
    coordinates_in (widened plan) o p ≡ coordinates_in plan o p
coordinates_in-same plan None p narrow in_it = refl
coordinates_in-same plan (Some t) p narrow in_it = is_coordinated-same plan t p narrow in_it

coordinates_in-none : (plan : Plan) (o : Option ℕ) (p : ℕ) → is_beyond p ≡ true → coordinates_in (widened plan) o p ≡ false
coordinates_in-none plan None p out = refl
coordinates_in-none plan (Some t) p out = not-coordinated plan t p out

pub is_coordinated_now-same : (plan : Plan) (runs : Option ℕ) (p : ℕ) → IsNarrow plan → is_narrow p ≡ true →
    is_coordinated_now (widened plan) runs p ≡ is_coordinated_now plan runs p
is_coordinated_now-same plan runs p narrow in_it =
    rw (split_in_effect-same plan runs) (coordinates_in-same plan (split_in_effect plan runs) p narrow in_it)

pub not-coordinated_now : (plan : Plan) (runs : Option ℕ) (p : ℕ) → is_beyond p ≡ true → is_coordinated_now (widened plan) runs p ≡ false
not-coordinated_now plan runs p out = coordinates_in-none plan (split_in_effect (widened plan) runs) p out

pub is_omitted_now-same : (plan : Plan) (runs : Option ℕ) (p : ℕ) → IsNarrow plan → is_narrow p ≡ true →
    is_omitted_now (widened plan) runs p ≡ is_omitted_now plan runs p
is_omitted_now-same plan runs p narrow in_it = rw (mode_in_effect-same plan runs p narrow in_it) refl

pub minimum_recall-same : (plan : Plan) (runs : Option ℕ) (p : ℕ) → IsNarrow plan → is_narrow p ≡ true →
    is_on_minimum_recall (widened plan) runs p ≡ is_on_minimum_recall plan runs p
minimum_recall-same plan runs p narrow in_it =
    rw (mode_in_effect-same plan runs p narrow in_it, is_coordinated_now-same plan runs p narrow in_it) refl

pub maximum_recall-same : (plan : Plan) (runs : Option ℕ) (p : ℕ) → IsNarrow plan → is_narrow p ≡ true →
    is_on_maximum_recall (widened plan) runs p ≡ is_on_maximum_recall plan runs p
maximum_recall-same plan runs p narrow in_it = rw (mode_in_effect-same plan runs p narrow in_it) refl

pub pedestrian_recall-same : (plan : Plan) (runs : Option ℕ) (p : ℕ) → IsNarrow plan → is_narrow p ≡ true →
    is_on_pedestrian_recall (widened plan) runs p ≡ is_on_pedestrian_recall plan runs p
pedestrian_recall-same plan runs p narrow in_it = rw (mode_in_effect-same plan runs p narrow in_it) refl

-- ## Splits and their ends

pub split_before-same : (plan : Plan) (t d q : ℕ) → IsNarrow plan → split_before (widened plan) t d q ≡ split_before plan t d q
split_before-same plan t d q narrow =
    elim (cases_Bool (is_enabled plan q)) [
      | inl on ↦ rw (split_time-same plan t q narrow (enabled-narrow plan q narrow on)) refl
      | inr off ↦ rw off refl
    ]

pub is_on-none : (plan : Plan) (r d p : ℕ) → IsNarrow plan → is_narrow p ≡ false → is_on plan r d p ≡ false
is_on-none plan r d p narrow out = rw (not-enabled plan p narrow out) refl

pub has_phases-same : (plan : Plan) (r d : ℕ) → IsNarrow plan → has_phases (widened plan) r d ≡ has_phases plan r d
has_phases-same plan r d narrow =
    any-same plan (is_on (widened plan) r d) (is_on plan r d) narrow (λ p in_it. refl)
    (λ p out. is_on-none plan r d p narrow (beyond-narrow p out))

pub split_sum-same : (plan : Plan) (t r d : ℕ) → IsNarrow plan → split_sum (widened plan) t r d ≡ split_sum plan t r d
unfolding split_sum
split_sum-same plan t r d narrow =
    sum-same plan (split_on (widened plan) t r d) (split_on plan t r d) narrow
    (λ p in_it. rw (split_time-same plan t p narrow in_it) refl)
    (λ p out. rw (is_on-none plan r d p narrow (beyond-narrow p out)) refl)

pub side_sum-same : (plan : Plan) (t d : ℕ) → IsNarrow plan → side_sum (widened plan) t d ≡ side_sum plan t d
unfolding side_sum
side_sum-same plan t d narrow = rw (has_phases-same plan 1 d narrow, split_sum-same plan t 1 d narrow, split_sum-same plan t 2 d narrow) refl

-- of the phases up to p in what a sequence has for a ring
before-same : (plan : Plan) (s t d r p : ℕ) → IsNarrow plan →
    sum_by (split_before plan t d) (up_to p (ring_sequence (widened plan) s r)) ≡ sum_by (split_before plan t d) (up_to p (ring_sequence plan s r))
before-same plan s t d r p narrow =
    elim (cases_Bool (nat_le 1 r && nat_le r 2)) [
      | inr other ↦ rw other refl
      | inl ring ↦ rw (ring, sequence-same plan s r narrow)
          (sum-up_to (split_before plan t d) p (sequence plan s r) zeros (rw (not-enabled plan 0 narrow refl) refl) refl)
    ]

pub split_end-same : (plan : Plan) (s t p : ℕ) → IsNarrow plan → split_end (widened plan) s t p ≡ split_end plan s t p
unfolding split_end
split_end-same plan s t p narrow =
    ap₂ (λ (m n : ℕ). m + n)
    (ap (λ f. sum_by f (up_to p (ring_sequence (widened plan) s (ring_of plan p)))) (fun_ext (λ q. split_before-same plan t (side_of plan p) q narrow))
    ∙ before-same plan s t (side_of plan p) (ring_of plan p) p narrow)
    (ap (λ f. sum_by f (run_from 1 (side_of plan p - 1))) (fun_ext (λ d. side_sum-same plan t d narrow)))

-- ## Force-off

end_in-same : (plan : Plan) (n : ℕ) (o : Option ℕ) (p : ℕ) → IsNarrow plan → end_in (widened plan) n o p ≡ end_in plan n o p
end_in-same plan n None p narrow = refl
end_in-same plan n (Some t) p narrow = split_end-same plan (sequence_in_effect plan (Some n)) t p narrow

pub instant_from-same : (plan : Plan) (n c p : ℕ) → IsNarrow plan → instant_from (widened plan) n c p ≡ instant_from plan n c p
instant_from-same plan n c p narrow =
    rw (end_in-same plan n (split_of plan n) p narrow, end_in-same plan n (split_of plan n) c narrow) refl

first_coordinated-same : (plan : Plan) (n : ℕ) → IsNarrow plan → first_coordinated (widened plan) n ≡ first_coordinated plan n
first_coordinated-same plan n narrow =
    first-same plan (is_coordinated_now (widened plan) (Some n)) (is_coordinated_now plan (Some n)) narrow
    (λ p in_it. is_coordinated_now-same plan (Some n) p narrow in_it) (λ p out. not-coordinated_now plan (Some n) p out)

coordinated_in_ring-same : (plan : Plan) (n r : ℕ) → IsNarrow plan → coordinated_in_ring (widened plan) n r ≡ coordinated_in_ring plan n r
coordinated_in_ring-same plan n r narrow =
    first-same plan (is_coordinated_in (widened plan) n r) (is_coordinated_in plan n r) narrow
    (λ p in_it. ap (λ (b : Bool). b && ring_of plan p == r) (is_coordinated_now-same plan (Some n) p narrow in_it))
    (λ p out. ap (λ (b : Bool). b && ring_of plan p == r) (not-coordinated_now plan (Some n) p out))

pub reference-same : (plan : Plan) (n : ℕ) → IsNarrow plan → reference (widened plan) n ≡ reference plan n
reference-same plan n narrow = ap₂ or_else (coordinated_in_ring-same plan n 1 narrow) (first_coordinated-same plan n narrow)

instant_by-same : (plan : Plan) (n : ℕ) (o : Option ℕ) (p : ℕ) → IsNarrow plan → instant_by (widened plan) n o p ≡ instant_by plan n o p
instant_by-same plan n None p narrow = refl
instant_by-same plan n (Some c) p narrow = ap Some (instant_from-same plan n c p narrow)

pub force_off-same : (plan : Plan) (runs : Option ℕ) (p : ℕ) → IsNarrow plan → force_off (widened plan) runs p ≡ force_off plan runs p
unfolding force_off
force_off-same plan None p narrow = refl
force_off-same plan (Some n) p narrow = rw (reference-same plan n narrow, instant_by-same plan n (reference plan n) p narrow) refl

-- in both offsets are counted to local 0
local_in-same : (plan : Plan) (t : ℕ) (runs : Option ℕ) → IsNarrow plan → local_in (widened plan) t runs ≡ local_in plan t runs
local_in-same plan t None narrow = refl
local_in-same plan t (Some n) narrow =
    ap (λ (o : ℕ). Some ((t + cycle plan n - o) % cycle plan n)) (wide-offset plan n narrow ∙ sym (plain-offset plan n narrow))

local-same : (plan : Plan) (t : ℕ) (selected : Option ℕ) → IsNarrow plan → local (widened plan) t selected ≡ local plan t selected
local-same plan t selected narrow = rw (running-same plan selected) (local_in-same plan t (running plan selected) narrow)

-- ## The local counter as it goes, which is in step in both

shift_in-same : (plan : Plan) (runs : Option ℕ) (c : Correction) → shift_in (widened plan) runs c ≡ shift_in plan runs c
shift_in-same plan None c = refl
shift_in-same plan (Some n) c = refl

clocked-same : (plan : Plan) (selected : Option ℕ) (c : Correction) (t : ℕ) → clocked (widened plan) selected c t ≡ clocked plan selected c t
clocked-same plan selected c t =
    ap (λ (o : Option ℕ). t + shift_in (widened plan) o c) (running-same plan selected) ∙ ap (λ (k : ℕ). t + k) (shift_in-same plan (running plan selected) c)

counter-in_step : (plan : Plan) (selected : Option ℕ) (c : Correction) (t : ℕ) → IsNarrow plan → is_in_step plan selected c t ≡ true
counter-in_step plan selected c t narrow = in_step_at_once plan selected c t (at-once plan narrow)

wide-in_step : (plan : Plan) (selected : Option ℕ) (c : Correction) (t : ℕ) → IsNarrow plan → is_in_step (widened plan) selected c t ≡ true
wide-in_step plan selected c t narrow = in_step_at_once (widened plan) selected c t (at-once plan narrow)

pub local_now-same : (plan : Plan) (selected : Option ℕ) (c : Correction) (t : ℕ) → IsNarrow plan →
    local_now (widened plan) selected c t ≡ local_now plan selected c t
local_now-same plan selected c t narrow =
    local_in_step (widened plan) selected c t (wide-in_step plan selected c t narrow)
    ∙ ap (λ (k : ℕ). local (widened plan) k selected) (clocked-same plan selected c t)
    ∙ local-same plan (clocked plan selected c t) selected narrow ∙ sym (local_in_step plan selected c t (counter-in_step plan selected c t narrow))

-- whatever is selected, it begins in step
pub selected_correction-same : (plan : Plan) (selected : Option ℕ) (now midnight : ℕ) (l k : Option ℕ) → IsNarrow plan →
    selected_correction (widened plan) selected now midnight l ≡ selected_correction plan selected now midnight k
selected_correction-same plan selected now midnight l k narrow =
    begins_at_once (widened plan) selected now midnight l (at-once plan narrow) ∙ sym (begins_at_once plan selected now midnight k (at-once plan narrow))

-- ## The orders

is_at_force_off-same : (plan : Plan) (t : ℕ) (selected : Option ℕ) (p : ℕ) → IsNarrow plan →
    is_at_force_off (widened plan) t selected p ≡ is_at_force_off plan t selected p
is_at_force_off-same plan t selected p narrow =
    rw (running-same plan selected, local_in-same plan t (running plan selected) narrow, force_off-same plan (running plan selected) p narrow) refl

-- in neither is force-off late, nor is there a permissive time
asks_force_off-same : (plan : Plan) (t : ℕ) (selected : Option ℕ) (p : ℕ) → IsNarrow plan →
    asks_force_off (widened plan) t selected p ≡ asks_force_off plan t selected p
asks_force_off-same plan t selected p narrow =
    options_off (widened plan) t selected p (not-late plan narrow) (λ n. no-permissive_time plan n narrow)
    ∙ is_at_force_off-same plan t selected p narrow ∙ sym (options_off plan t selected p (not-late plan narrow) (λ n. no-permissive_time plan n narrow))

-- in neither may a phase walk again
asks_recycle-same : (plan : Plan) (t : ℕ) (selected : Option ℕ) (p : ℕ) → IsNarrow plan →
    asks_recycle (widened plan) t selected p ≡ asks_recycle plan t selected p
asks_recycle-same plan t selected p narrow =
    never_recycles (widened plan) (running (widened plan) selected) (local (widened plan) t selected) p (no-second_walk plan p narrow)
    ∙ sym (never_recycles plan (running plan selected) (local plan t selected) p (no-second_walk plan p narrow))

pub forces-same : (plan : Plan) (selected : Option ℕ) (c : Correction) (t p : ℕ) → IsNarrow plan →
    forces (widened plan) selected c t p ≡ forces plan selected c t p
forces-same plan selected c t p narrow =
    forces_in_step (widened plan) selected c t p (wide-in_step plan selected c (t - 1) narrow)
    ∙ ap (λ (k : ℕ). asks_force_off (widened plan) k selected p) (clocked-same plan selected c t)
    ∙ asks_force_off-same plan (clocked plan selected c t) selected p narrow ∙ sym (forces_in_step plan selected c t p (counter-in_step plan selected c (t - 1) narrow))

pub lets_walk_again-same : (plan : Plan) (selected : Option ℕ) (c : Correction) (t p : ℕ) → IsNarrow plan →
    lets_walk_again (widened plan) selected c t p ≡ lets_walk_again plan selected c t p
lets_walk_again-same plan selected c t p narrow =
    ap₂ (λ (a b : Bool). a && b)
    (wide-in_step plan selected c (t - 1) narrow ∙ sym (counter-in_step plan selected c (t - 1) narrow))
    (ap (λ (k : ℕ). asks_recycle (widened plan) k selected p) (clocked-same plan selected c t)
    ∙ asks_recycle-same plan (clocked plan selected c t) selected p narrow)

pub asks_hold-same : (plan : Plan) (selected : Option ℕ) (p : ℕ) → IsNarrow plan → is_narrow p ≡ true →
    asks_hold (widened plan) selected p ≡ asks_hold plan selected p
asks_hold-same plan selected p narrow in_it =
    rw (running-same plan selected) (is_coordinated_now-same plan (running plan selected) p narrow in_it)

pub asks_omit-same : (plan : Plan) (selected : Option ℕ) (p : ℕ) → IsNarrow plan → is_narrow p ≡ true →
    asks_omit (widened plan) selected p ≡ asks_omit plan selected p
asks_omit-same plan selected p narrow in_it =
    rw (running-same plan selected) (is_omitted_now-same plan (running plan selected) p narrow in_it)

pub serving_order-same : (plan : Plan) (selected : Option ℕ) (r : ℕ) → IsNarrow plan →
    serving_order (widened plan) selected r ≡ serving_order plan selected r ++ zeros
serving_order-same plan selected r narrow =
    rw (running-same plan selected, sequence_in_effect-same plan (running plan selected))
    (sequence-same plan (sequence_now plan selected) r narrow)
