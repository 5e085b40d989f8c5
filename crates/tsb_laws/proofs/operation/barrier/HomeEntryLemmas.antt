-- A crossing that begins to the side of a called phase commits its ring to that phase, or to one that comes before it.
-- For the laws that called phases are served, in free operation and in patterns.
use Rattle.std.proofs.Common.{◌≡◌, ℕ, Bool, true, ◌&&◌, Option, Some, None, refl, sym, ap, ◌∙◌, ◌⊎◌}
use Rattle.std.proofs.lemmas.Bool.{eqb-true, eq-eqb}
use Rattle.tsb_step.specs.tsb_types.Lists.{among, later, or_else}
use Rattle.tsb_step.specs.tsb_plan.Plan.{Plan, is_enabled, side_of}
use Rattle.tsb_step.specs.tsb_ring.Rings.{Ring, Ring1, Ring2, State, Given, in_ring}
use Rattle.tsb_step.specs.tsb_ring.Wants.{concurrent_with, is_on_side}
use Rattle.tsb_step.specs.tsb_ring.Crossings.{begins, target_side, dual, is_called_in, called_in_ring_1, called_in_ring_2, entry_by_calls, entry_for, entry, committed}
use Rattle.tsb_step.specs.tsb_ring.Next.{new_commitment, next}
use Rattle.tsb_step.proofs.tsb_ring.MoveLemmas.{and_three}
use Rattle.tsb_step.proofs.tsb_ring.WaitLemmas.{first-passes}
use Rattle.tsb_laws.specs.ServedCalls.{IsFullyConcurrent}
use Rattle.tsb_laws.proofs.safety.CrossingRingLemmas.{begins_alone}
use Rattle.tsb_laws.proofs.safety.SideSoughtLemmas.{none_first}
use Rattle.tsb_laws.proofs.operation.calls.RingPlaceLemmas.{first_or_later}

module _ (plan : Plan) (s : State) (given : Given) (full : IsFullyConcurrent plan) (called_on : (p : ℕ) → given.callable p ≡ true → is_enabled plan p ≡ true)
    (free : given.target ≡ None) (b : begins plan s given ≡ true) where
  pub record Enters (r : Ring) (c : ℕ) : Type 0 where
    pub one : ℕ
    pub bound : (next plan s given).commitment r ≡ Some one
    pub ahead : (one ≡ c) ⊎ (among c (later (Some one) (given.sequence r)) ≡ true)

  entry_is : (r : Ring) → entry plan s given r ≡ entry_by_calls plan given (target_side plan s given) r
  unfolding entry
  entry_is r = ap (λ (t : Option (ℕ → Bool)). entry_for plan s given r t) free

  bound_is : (r : Ring) → (next plan s given).commitment r ≡ entry plan s given r
  unfolding next new_commitment committed
  bound_is r = rw (begins_alone plan s given r b, b) refl

  called_there : (r : Ring) (c : ℕ) → in_ring plan r c ≡ true → given.callable c ≡ true → target_side plan s given ≡ side_of plan c →
      is_called_in plan given (target_side plan s given) r c ≡ true
  called_there r c own called home = rw (own, eq-eqb (side_of plan c) (target_side plan s given) (sym home), called) refl

  fits_first : (c : ℕ) → in_ring plan Ring2 c ≡ true → given.callable c ≡ true → target_side plan s given ≡ side_of plan c → (o : Option ℕ) →
      called_in_ring_1 plan given (target_side plan s given) ≡ o → concurrent_with plan c o ≡ true
  fits_first c own called home None e = refl
  fits_first c own called home (Some q) e =
      let it = and_three (in_ring plan Ring1 q) (is_on_side plan (target_side plan s given) q) (given.callable q)
      (first-passes (is_called_in plan given (target_side plan s given) Ring1) (given.sequence Ring1) q e) in
      full Ring2 c q own it.0 (called_on c called) (called_on q it.2) (sym home ∙ sym (eqb-true (side_of plan q) (target_side plan s given) it.1))

  pub enters_home : (r : Ring) (c : ℕ) → in_ring plan r c ≡ true → given.callable c ≡ true → among c (given.sequence r) ≡ true →
      target_side plan s given ≡ side_of plan c → Enters r c
  enters_home Ring1 c own called there home = go (called_in_ring_1 plan given (target_side plan s given)) refl
    where
      passes : is_called_in plan given (target_side plan s given) Ring1 c ≡ true
      passes = called_there Ring1 c own called home

      go : (o : Option ℕ) → called_in_ring_1 plan given (target_side plan s given) ≡ o → Enters Ring1 c
      go None e = absurd (none_first (is_called_in plan given (target_side plan s given) Ring1) (given.sequence Ring1) c there passes e)
      go (Some x) e = record {
        one = x;
        bound = bound_is Ring1 ∙ (entry_is Ring1 ∙ ap (λ (y : Option ℕ). or_else y (dual plan given (target_side plan s given) Ring1 (called_in_ring_2 plan given (target_side plan s given)))) e);
        ahead = first_or_later (is_called_in plan given (target_side plan s given) Ring1) x c (given.sequence Ring1) e there passes;
      }
  enters_home Ring2 c own called there home = go (called_in_ring_2 plan given (target_side plan s given)) refl
    where
      test : ℕ → Bool
      test = λ p. is_called_in plan given (target_side plan s given) Ring2 p && concurrent_with plan p (called_in_ring_1 plan given (target_side plan s given))

      passes : test c ≡ true
      passes =
          rw (called_there Ring2 c own called home, fits_first c own called home (called_in_ring_1 plan given (target_side plan s given)) refl) refl

      go : (o : Option ℕ) → called_in_ring_2 plan given (target_side plan s given) ≡ o → Enters Ring2 c
      go None e = absurd (none_first test (given.sequence Ring2) c there passes e)
      go (Some x) e = record {
        one = x;
        bound = bound_is Ring2 ∙ (entry_is Ring2 ∙ ap (λ (y : Option ℕ). or_else y (dual plan given (target_side plan s given) Ring2 (called_in_ring_1 plan given (target_side plan s given)))) e);
        ahead = first_or_later test x c (given.sequence Ring2) e there passes;
      }
