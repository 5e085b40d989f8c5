-- Memories and counts are in range after a tick.
use Rattle.std.proofs.Common.{◌≡◌, ℕ, ◌+◌, ◌≤◌, ◌==◌, Bool, true, false, ◌&&◌, if◌then◌else◌, min, refl, arith, ◌∙◌, inl, inr}
use Rattle.std.proofs.lemmas.Bool.{cases_Bool}
use Rattle.std.proofs.lemmas.Bool.Decides.{nat_tests}
use Rattle.tsb_step.specs.tsb_types.Lists.{is}
use Rattle.tsb_step.specs.tsb_types.Sets.{is_phase}
use Rattle.tsb_step.specs.tsb_plan.declared.object.Object.TheVariants.{VehicleDetectorCallPhase}
use Rattle.tsb_step.specs.tsb_plan.Parts.{unless_zero}
use Rattle.tsb_step.specs.tsb_plan.Plan.{Plan, is_enabled}
use Rattle.tsb_step.specs.tsb_calls.Memories.{Memories, Given, at_power_up, calls, was_green, actuations, vehicle_memory, pedestrian_memory, counted}
use Rattle.tsb_step.specs.tsb_calls.Settled.{Done, next}
use Rattle.tsb_step.specs.tsb_calls.Laws.{AreInRange}
use Rattle.tsb_step.proofs.tsb_calls.CountLemmas.{count-same, count-none}

-- no detector calls what is no phase
not-called : (n p : ℕ) → n ≤ 16 → is_phase p ≡ false → is p (unless_zero n) ≡ false
not-called n p most out =
    elim (cases_Bool (n == 0)) [
      | inl none ↦ rw none refl
      | inr some ↦ rw some (grind (arith, nat_tests, most, some, out))
    ]

-- what holds of a plan's phases, and of what the rings did
pub record IsSettled (plan : Plan) (done : Done) : Type 0 where
  pub called : (d : ℕ) → plan.value VehicleDetectorCallPhase d ≤ 16
  pub enabled : (p : ℕ) → is_phase p ≡ false → is_enabled plan p ≡ false
  pub starts : (p : ℕ) → is_phase p ≡ false → done.starts p ≡ false
  pub ends : (p : ℕ) → is_phase p ≡ false → done.ends p ≡ false

module _ (plan : Plan) (given : Given) (done : Done) (was : Memories) (ok : IsSettled plan done) (ranged : AreInRange was) where
  none-actuated : (p : ℕ) → is_phase p ≡ false → actuations plan given p ≡ 0
  unfolding actuations
  none-actuated p out =
      count-same (λ d. calls plan d p && given.actuated d) (λ d. false) 1 plan.counts.vehicle_detectors
      (λ d from below. let none : calls plan d p ≡ false = not-called (plan.value VehicleDetectorCallPhase d) p (ok.called d) out in rw none refl)
      ∙ count-none (λ d. false) 1 plan.counts.vehicle_detectors (λ d. refl)

  few : (b ends : Bool) (n more : ℕ) → n ≤ 255 → (if ends then 0 else (if b then n else min 255 (n + more))) ≤ 255
  few b true n more h = omega arith
  few true false n more h = h
  few false false n more h = omega arith

  zero-count : (b : Bool) → (if b then 0 else min 255 (0 + 0)) ≡ 0
  zero-count true = refl
  zero-count false = refl

  pub memories-after : AreInRange (next plan given done was)
  unfolding vehicle_memory pedestrian_memory counted
  memories-after = record {
    counts = λ p from to. few (was_green given p) (done.ends p) (was.count p) (actuations plan given p) (ranged.counts p from to);
    others = record {
      vehicle = λ p out. rw (ok.starts p out, ok.ends p out, ranged.others.vehicle p out, ok.enabled p out) refl;
      pedestrian = λ p out. rw (ranged.others.pedestrian p out, ok.enabled p out) refl;
      count = λ p out. rw (ok.ends p out, ranged.others.count p out, none-actuated p out) (zero-count (was_green given p));
    };
  }

pub memories-begin : AreInRange at_power_up
memories-begin = record {
  counts = λ p from to. omega arith;
  others = record { vehicle = λ p out. refl; pedestrian = λ p out. refl; count = λ p out. refl };
}
