-- The moves that the rings decide may be carried out: both rings move different phases, of 1 to 16, and clear only what has
-- cleared in time.
use Rattle.std.proofs.Common.{◌≡◌, ℕ, Bool, true, false, not, ◌&&◌, ◌∙◌, if◌then◌else◌, List, Option, Some, None, refl, sym, inl, inr, subst}
use Rattle.std.proofs.lemmas.Bool.{true≢false, and_parts}
use Rattle.tsb_step.specs.tsb_types.declared.flow.Moves.{Moves}
use Rattle.tsb_step.specs.tsb_types.declared.flow.Timing.{Timing}
use Rattle.tsb_step.specs.tsb_types.declared.phase_set.PhaseSet.{PhaseSet}
use Rattle.tsb_step.specs.tsb_types.Intervals.{in_service}
use Rattle.tsb_step.specs.tsb_types.Lists.{is}
use Rattle.tsb_step.specs.tsb_types.Sets.{has, is_phase}
use Rattle.tsb_step.proofs.tsb_types.ClipLemmas.{IsAmong, among_16}
use Rattle.tsb_step.specs.tsb_plan.Plan.{Plan, phases}
use Rattle.tsb_phase.specs.declared.conditions.Conditions as phase_conditions
use Rattle.tsb_phase.specs.Promises.{IsTicked, TellsOver, IsClearing}
use Rattle.tsb_phase.proofs.OverLemmas.{overs-may_clear}
use Rattle.tsb_ring.specs.declared.conditions.RingConditions as ring_conditions
use Rattle.tsb_ring.specs.Cells.{IsBy, rings_in}
use Rattle.tsb_ring.specs.Looks.{IsWithin}
use Rattle.tsb_ring.specs.Moves.{if_passes, moves, is_cleared}
use Rattle.tsb_ring.specs.Promises.{given_of, IsDecided}
use Rattle.tsb_ring.specs.Rings.{Ring, Ring1, Ring2, State, Given, in_ring, serving}
use Rattle.tsb_ring.proofs.MoveLemmas.{or_cases, is-Some, clears_over}
use Rattle.tsb_ring.proofs.ClaimLemmas.{one_ring}
use Rattle.tsb_ring.proofs.WaitLemmas.{first-passes}
use Rattle.tsb_controller.specs.Carried.{AreApart}
use Rattle.tsb_controller.specs.Found.{IsHeldBack}
use Rattle.tsb_controller.proofs.PlacedLemmas.{IsPlaced, within}

passed : (test : ℕ → Bool) (o : Option ℕ) (p : ℕ) → is p (if_passes test o) ≡ true → o ≡ Some p
passed test None p h = absurd (true≢false (sym h))
passed test (Some q) p h = go (test q) refl h
  where
    go : (x : Bool) → test q ≡ x → is p (if x then Some q else None) ≡ true → Some q ≡ Some p
    go true e k = is-Some p (Some q) k
    go false e k = absurd (true≢false (sym k))

-- a ring serves a phase of its own
serving-ring : (plan : Plan) (g : Given) (r : Ring) (p : ℕ) → serving plan g r ≡ Some p → in_ring plan r p ≡ true
unfolding serving
serving-ring plan g r p e =
    (and_parts (in_ring plan r p) (in_service (g.interval p)) (first-passes (λ q. in_ring plan r q && in_service (g.interval q)) (phases plan) p e)).0

moved-ring : (plan : Plan) (g : Given) (r : Ring) (test : ℕ → Bool) (p : ℕ) → is p (if_passes test (serving plan g r)) ≡ true → in_ring plan r p ≡ true
moved-ring plan g r test p on = serving-ring plan g r p (passed test (serving plan g r) p on)

moves-apart : (plan : Plan) (s : State) (g : Given) → AreApart (moves plan s g)
unfolding moves
moves-apart plan s g = record {
  ends = λ p one two. one_ring plan p (moved-ring plan g Ring1 _ p one) (moved-ring plan g Ring2 _ p two);
  clears = λ p one two. one_ring plan p (moved-ring plan g Ring1 _ p one) (moved-ring plan g Ring2 _ p two);
}

cleared-phase : (plan : Plan) (s : State) (g : Given) → IsWithin plan s → (p : ℕ) → is_cleared (moves plan s g) p ≡ true → is_phase p ≡ true
unfolding moves
cleared-phase plan s g here p on =
    elim (or_cases (is p (moves plan s g).first.clears) (is p (moves plan s g).second.clears) on) [
      | inl one ↦ here.ringed Ring1 p (moved-ring plan g Ring1 _ p one)
      | inr two ↦ here.ringed Ring2 p (moved-ring plan g Ring2 _ p two)
    ]

pub apart : (plan : Plan) (c : ring_conditions.RingConditions) (row : List ℕ) (m : Moves) → IsDecided plan c row m → AreApart m
apart plan c row m decided = subst AreApart (sym decided) (moves-apart plan (rings_in row) (given_of plan c))

-- what the rings clear may be cleared once the times of phases have run
pub clearing : (now : ℕ) (plan : Plan) (k : phase_conditions.Conditions) (c : ring_conditions.RingConditions) (row old timed : List ℕ) (own : Timing) (held : PhaseSet) (m : Moves) → IsPlaced plan → IsBy row →
    IsDecided plan c row m → IsTicked now k plan old timed → TellsOver now plan old own → IsHeldBack held own c.timing → (p : ℕ) → is_cleared m p ≡ true → IsClearing p timed
clearing now plan k c row old timed own held m ok by decided ticked over back p on =
    let here : is_cleared (moves plan (rings_in row) (given_of plan c)) p ≡ true = subst (λ (x : Moves). is_cleared x p ≡ true) decided on in
    let i : IsAmong p = among_16 p (cleared-phase plan (rings_in row) (given_of plan c) (within plan row ok by) p here) in
    let let_go : has c.timing.over p ≡ true = clears_over plan (rings_in row) (given_of plan c) p here in
    overs-may_clear now k plan old timed own ticked over p i.from i.to (and_parts (has own.over p) (not (has held p)) (sym (back.over p) ∙ let_go)).0
