-- What one tick makes of a ring that is committed: the commitment starts as soon as its ring is over and its red revert has passed.
use Rattle.std.proofs.Common.{◌≡◌, ℕ, Bool, true, false, ◌&&◌, ◌||◌, Option, Some, None, is_some, is_none, refl, sym, inl, inr, ◌⊎◌, ◌∙◌}
use Rattle.std.proofs.lemmas.Bool.{and_parts, or_cases, false≢true, false_from_ne_true}
use Rattle.tsb_step.specs.tsb_types.declared.interval.Interval.{Interval}
use Rattle.tsb_step.specs.tsb_types.declared.interval.Interval.TheVariants.{Red, Green, Yellow, RedClear}
use Rattle.tsb_step.specs.tsb_types.Intervals.{in_service, is_green}
use Rattle.tsb_step.specs.tsb_types.Lists.{is}
use Rattle.tsb_step.specs.tsb_plan.Plan.{Plan, phases, is_concurrent}
use Rattle.tsb_step.specs.tsb_ring.declared.want.Want.{Want}
use Rattle.tsb_step.specs.tsb_ring.Rings.{Ring, Ring1, Ring2, other, State, Given, in_ring, own_ring, serving}
use Rattle.tsb_step.specs.tsb_ring.Wants.{want_of, pick}
use Rattle.tsb_step.specs.tsb_ring.Crossings.{joins_in, joins, ring_joins, begins, target_side, committed}
use Rattle.tsb_step.specs.tsb_ring.Next.{makes_way, completes, starting, leaves, ends, clears, new_commitment, new_crossing}
use Rattle.tsb_step.specs.tsb_ring.Moves.{ring_moves, moves, is_ended, is_cleared, is_started}
use Rattle.tsb_step.specs.tsb_ring.Laws.{IsSymmetric, IsGiven, IsSound}
use Rattle.tsb_step.proofs.tsb_ring.ActLemmas.{stays_committed, begins_not}
use Rattle.tsb_step.proofs.tsb_ring.MoveLemmas.{is-Some, passed}
use Rattle.tsb_step.proofs.tsb_ring.WaitLemmas.{first-passes, is_serving}
use Rattle.tsb_step.proofs.tsb_ring.WantLemmas.{Free, free}
use Rattle.tsb_step.proofs.tsb_ring.ClaimLemmas.{same_ring, ring_of_is}
use Rattle.tsb_step.proofs.tsb_ring.SoundLemmas.{Starting, starting_is, Commits, enters, stands, makes, commits, new_commits}

-- ## A green that ends

ends_of : (plan : Plan) (s : State) (given : Given) (p : ℕ) → is_ended (moves plan s given) p ≡ true → ends plan s given p ≡ true
unfolding moves
ends_of plan s given p h =
    elim (or_cases (is p (ring_moves plan s given Ring1).ends) (is p (ring_moves plan s given Ring2).ends) h) [
      | inl k ↦ one Ring1 k
      | inr k ↦ one Ring2 k
    ]
  where
    one : (r : Ring) → is p (ring_moves plan s given r).ends ≡ true → ends plan s given p ≡ true
    one r k = (and_parts (is_green (given.interval p)) (ends plan s given p) (passed (λ q. is_green (given.interval q) && ends plan s given q) (serving plan given r) p k).1).1

leaves_free : (plan : Plan) (s : State) (given : Given) (r : Ring) → leaves (want_of plan s given r) ≡ true → Free plan s given r
leaves_free plan s given r h = go (want_of plan s given r) refl h
  where
    go : (w : Option Want) → want_of plan s given r ≡ w → leaves w ≡ true → Free plan s given r
    go None e k = absurd (false≢true k)
    go (Some w) e k = free plan s given r w e

-- what its ring commits to as it ends, outside a crossing, is the ring's own pick
pub made_by_pick : (plan : Plan) (s : State) (given : Given) (yellow_done : ℕ → Bool) → IsSymmetric plan → IsSound plan given.interval s → IsGiven plan given →
    (r : Ring) (p c : ℕ) → in_ring plan r p ≡ true → is_ended (moves plan s given) p ≡ true → new_crossing plan s given ≡ None →
    new_commitment plan s given r ≡ Some c → pick plan s given r ≡ Some c
unfolding ends new_crossing
made_by_pick plan s given yellow_done symmetric sound ok r p c own ended out h =
    go (commits plan s given yellow_done symmetric sound ok r c (new_commits plan s given yellow_done symmetric sound ok r c h).1)
  where
    bad_crossing : begins plan s given ≡ true → ⊥
    bad_crossing b = let some : Some (target_side plan s given) ≡ None = (rw b at out) in absurd cc

    free_then : Free plan s given r
    free_then =
        elim (or_cases (begins plan s given) (given.ready p && leaves (want_of plan s given (own_ring plan p))) (ends_of plan s given p ended)) [
          | inl b ↦ absurd (bad_crossing b)
          | inr k ↦ leaves_free plan s given r (rw (ring_of_is plan r p own) at (and_parts (given.ready p) (leaves (want_of plan s given (own_ring plan p))) k).1)
        ]

    go : Commits plan s given yellow_done symmetric sound ok r c → pick plan s given r ≡ Some c
    go (enters b e) = absurd (bad_crossing b)
    go (stands b e) = (let none : s.commitment r ≡ None = free_then.no_commitment in let bad : None ≡ Some c = sym none ∙ e in absurd cc)
    go (makes b e) = e

-- ## A tick in which a commitment does not start

joins_not_in : (i : Interval) (ready : Bool) (c : ℕ) → joins_in i ready None (Some c) ≡ true → ⊥
joins_not_in Red ready c h = false≢true h
joins_not_in Green true c h = false≢true h
joins_not_in Green false c h = false≢true h
joins_not_in Yellow ready c h = false≢true h
joins_not_in RedClear ready c h = false≢true h

joins_not : (given : Given) (was : Option ℕ) (c : ℕ) → joins given was (Some c) None ≡ true → ⊥
joins_not given None c h = false≢true h
joins_not given (Some q) c h = joins_not_in (given.interval q) (given.ready q) c h

pub ring_joins_not : (plan : Plan) (s : State) (given : Given) (r : Ring) (c : ℕ) → s.commitment r ≡ Some c → ring_joins plan s given r ≡ true → ⊥
ring_joins_not plan s given r c e h = go (want_of plan s given r) refl
  where
    go : (w : Option Want) → want_of plan s given r ≡ w → ⊥
    go None k = joins_not given (serving plan given r) c (rw (e, k) at h)
    go (Some w) k = (let none : s.commitment r ≡ None = (free plan s given r w k).no_commitment in let bad : None ≡ Some c = sym none ∙ e in absurd cc)

-- outside a crossing none begins or is completed
pub stays_outside : (plan : Plan) (s : State) (given : Given) (r : Ring) (c : ℕ) → s.commitment r ≡ Some c → s.crossing ≡ None →
    new_crossing plan s given ≡ None
unfolding new_crossing completes
stays_outside plan s given r c e out = rw (begins_not plan s given r c e, out) refl

-- a phase of a ring that starts none does not start
pub starts_not : (plan : Plan) (s : State) (given : Given) (yellow_done : ℕ → Bool) → IsSymmetric plan → IsSound plan given.interval s → IsGiven plan given →
    (r : Ring) (p : ℕ) → in_ring plan r p ≡ true → starting plan s given r ≡ None → is_started (moves plan s given) p ≡ false
unfolding moves
starts_not plan s given yellow_done symmetric sound ok r p own none =
    false_from_ne_true _ (λ h. elim (or_cases (is p (starting plan s given Ring1)) (is p (starting plan s given Ring2)) h) [
      | inl k ↦ one Ring1 (is-Some p (starting plan s given Ring1) k)
      | inr k ↦ one Ring2 (is-Some p (starting plan s given Ring2) k)
    ])
  where
    one : (x : Ring) → starting plan s given x ≡ Some p → ⊥
    one x k =
        let it : Starting plan s given x p = starting_is plan s given yellow_done symmetric sound ok x p k in
        let same : r ≡ x = same_ring plan r x p own it.ringed in
        let bad : None ≡ Some p = sym none ∙ (rw same k) in absurd cc

-- nor does the one that it serves clear, where a commitment is kept
pub clears_not : (plan : Plan) (s : State) (given : Given) (r : Ring) (p c : ℕ) → in_ring plan r p ≡ true → s.commitment r ≡ Some c →
    starting plan s given r ≡ None → is_cleared (moves plan s given) p ≡ false
unfolding moves clears
clears_not plan s given r p c own e none =
    false_from_ne_true _ (λ h. elim (or_cases (is p (ring_moves plan s given Ring1).clears) (is p (ring_moves plan s given Ring2).clears) h) [
      | inl k ↦ one Ring1 k
      | inr k ↦ one Ring2 k
    ])
  where
    one : (x : Ring) → is p (ring_moves plan s given x).clears ≡ true → ⊥
    one x k =
        let all : clears plan s given p ≡ true = (passed (λ q. clears plan s given q) (serving plan given x) p k).1 in
        let some : (is_none (committed plan s given (own_ring plan p)) || is_some (starting plan s given (own_ring plan p))) ≡ true =
        (and_parts (given.over p) _ all).1 in
        false≢true (rw (ring_of_is plan r p own, stays_committed plan s given r c e, none) at some)

-- the other ring makes way for a commitment outside a crossing
pub way_is_made : (plan : Plan) (s : State) (given : Given) (r : Ring) (c : ℕ) → IsSound plan given.interval s → s.crossing ≡ None → s.commitment r ≡ Some c →
    makes_way plan given c (serving plan given (other r)) ≡ true
unfolding serving
way_is_made plan s given r c sound out e = go (serving plan given (other r)) refl
  where
    go : (o : Option ℕ) → serving plan given (other r) ≡ o → makes_way plan given c o ≡ true
    go None k = refl
    go (Some q) k =
        let both = and_parts (in_ring plan (other r) q) (in_service (given.interval q))
        (first-passes (λ p. in_ring plan (other r) p && in_service (given.interval p)) (phases plan) q k) in
        let together : is_concurrent plan c q ≡ true = sound.outside out r c q e both.0 both.1 in
        rw together refl

-- outside a crossing a commitment that does not start waits for its ring's clearance or for its red revert
pub waits_for : (plan : Plan) (s : State) (given : Given) (r : Ring) (p c : ℕ) → IsSound plan given.interval s → in_ring plan r p ≡ true →
    in_service (given.interval p) ≡ true → s.crossing ≡ None → s.commitment r ≡ Some c → starting plan s given r ≡ None →
    (given.over p ≡ false) ⊎ (given.reverted c ≡ false)
unfolding starting
waits_for plan s given r p c sound own serves out e none = go (given.over p) (given.reverted c) refl refl
  where
    go : (over reverted : Bool) → given.over p ≡ over → given.reverted c ≡ reverted → (given.over p ≡ false) ⊎ (given.reverted c ≡ false)
    go false reverted k l = inl k
    go true false k l = inr l
    go true true k l =
        let bad : Some c ≡ None = rw (e, out, is_serving plan s given r p sound own serves, k, l, way_is_made plan s given r c sound out e) at none in absurd cc
