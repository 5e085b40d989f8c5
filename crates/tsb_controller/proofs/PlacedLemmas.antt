-- What every checked plan is like: it has 16 phases and all detectors, overlaps and preempts. What is none of these has no
-- ring, is not enabled, is called by no detector, and is no arrow, nor does it trail. So what is in a ring is a phase.
use Rattle.std.proofs.Common.{◌≡◌, ℕ, ◌≤◌, ◌==◌, true, false, Some, None, List, refl, sym, ◌∙◌, inl, inr, arith, slice_index}
use Rattle.std.proofs.lemmas.Bool.{cases_Bool, true≢false}
use Rattle.std.proofs.lemmas.Bool.Decides.{nat_tests}
use Rattle.tsb_step.specs.tsb_types.declared.limits.TheConstants.{OVERLAPS, PEDESTRIAN_DETECTORS, PREEMPTS, VEHICLE_DETECTORS}
use Rattle.tsb_step.specs.tsb_types.Sets.{is_phase}
use Rattle.tsb_step.proofs.tsb_types.ClipLemmas.{is_phase_from}
use Rattle.tsb_step.specs.tsb_plan.declared.object.Object.TheVariants.{VehicleDetectorCallPhase}
use Rattle.tsb_step.specs.tsb_plan.Parts.{unless_zero}
use Rattle.tsb_step.specs.tsb_plan.Plan.{Plan, is_enabled, ring_of}
use Rattle.tsb_step.specs.tsb_plan.PlanOf.{plan_of}
use Rattle.tsb_calls.specs.Looks as calls
use Rattle.tsb_objects.specs.declared.checked.Checked.{Checked}
use Rattle.tsb_objects.specs.Checked.{checked_plan}
use Rattle.tsb_ring.specs.Cells.{IsBy, commitment_in, ring_cell, rings_in}
use Rattle.tsb_ring.specs.Looks.{IsWithin}
use Rattle.tsb_ring.specs.Rings.{Ring, Ring1, Ring2, number, in_ring}
use Rattle.tsb_overlap.specs.Laws.{TimesFew}

pub record IsPlaced (plan : Plan) : Type 0 where
  pub count : plan.phase_count ≤ 16
  pub detectors : plan.counts.vehicle_detectors ≤ VEHICLE_DETECTORS
  pub buttons : plan.counts.pedestrian_detectors ≤ PEDESTRIAN_DETECTORS
  pub preempts : plan.counts.preempts ≤ PREEMPTS
  pub overlaps : plan.counts.overlaps ≤ OVERLAPS
  pub ringed : (p : ℕ) → is_phase p ≡ false → ring_of plan p ≡ 0
  pub enabled : (p : ℕ) → is_phase p ≡ false → is_enabled plan p ≡ false
  pub called : (d : ℕ) → plan.value VehicleDetectorCallPhase d ≤ 16
  pub timed : TimesFew plan

pub placed : (checked : Checked) → IsPlaced (checked_plan checked)
unfolding checked_plan plan_of
placed checked = record {
  count = omega arith;
  detectors = omega arith;
  buttons = omega arith;
  preempts = omega arith;
  overlaps = omega arith;
  ringed = λ p out. rw out refl;
  enabled = λ p out. rw out refl;
  called = λ d. checked.plan.ranged.each VehicleDetectorCallPhase d;
  timed = λ o out. rw out refl;
}

-- as the calls ask for it
pub for_calls : (plan : Plan) → IsPlaced plan → calls.IsPlaced plan
for_calls plan ok = record { count = ok.count; enabled = ok.enabled; called = λ d from to. ok.called d }

-- a number that is not 0
some-number : (n p : ℕ) → unless_zero n ≡ Some p → n ≤ 16 → is_phase p ≡ true
some-number n p e most =
    elim (cases_Bool (n == 0)) [
      | inl zero_is ↦ (let no : None ≡ Some p = rw zero_is at e in absurd cc)
      | inr other ↦ (let here : Some n ≡ Some p = rw other at e in let same : n ≡ p = cc in rw (← same) (is_phase_from n (grind (arith, nat_tests, other)) most))
    ]

-- what is in a ring is a phase, as a commitment is
pub within : (plan : Plan) (row : List ℕ) → IsPlaced plan → IsBy row → IsWithin plan (rings_in row)
unfolding rings_in
within plan row ok by = record { count = ok.count; ringed = ringed; committed = committed }
  where
    no_ring : (r : Ring) → (0 == number r) ≡ false
    no_ring Ring1 = refl
    no_ring Ring2 = refl

    ringed : (r : Ring) (p : ℕ) → in_ring plan r p ≡ true → is_phase p ≡ true
    ringed r p on = elim (cases_Bool (is_phase p)) [
      | inl here ↦ here
      | inr out ↦ (let none : (0 == number r) ≡ true = rw (ok.ringed p out) at on in absurd (true≢false (sym none ∙ no_ring r)))
    ]

    committed : (r : Ring) (p : ℕ) → unless_zero (commitment_in (slice_index row (ring_cell r))) ≡ Some p → is_phase p ≡ true
    committed Ring1 p e = some-number (commitment_in (slice_index row 0)) p e (by.rings 0 (omega arith)).commitment
    committed Ring2 p e = some-number (commitment_in (slice_index row 1)) p e (by.rings 1 (omega arith)).commitment
