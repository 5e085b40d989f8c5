-- What one tick makes of the rings as a crossing begins, and while it is under way.
use Rattle.std.proofs.Common.{◌≡◌, ℕ, Bool, true, false, ◌&&◌, ◌||◌, if◌then◌else◌, Option, Some, None, is_some, refl, sym, ap, inl, inr, ◌∙◌}
use Rattle.std.proofs.lemmas.Bool.{cases_Bool, and_parts, eq-eqb, true≢false, false≢true}
use Rattle.tsb_step.specs.tsb_types.Intervals.{in_service, is_green}
use Rattle.tsb_step.specs.tsb_types.Lists.{is}
use Rattle.tsb_step.specs.tsb_plan.Plan.{Plan, phases, is_concurrent}
use Rattle.tsb_step.specs.tsb_ring.declared.want.Want.{Want}
use Rattle.tsb_step.specs.tsb_ring.declared.want.Want.TheVariants.{Go, Cross, Rest, Stop}
use Rattle.tsb_step.specs.tsb_ring.Rings.{Ring, Ring1, Ring2, other, State, Given, in_ring, serving}
use Rattle.tsb_step.specs.tsb_ring.Wants.{want_of, taken, pick}
use Rattle.tsb_step.specs.tsb_ring.Crossings.{wants_no_phase, begins, committed}
use Rattle.tsb_step.specs.tsb_ring.Next.{is_none_or_over, makes_way, may_start, completes, starting, ends, new_commitment, new_side, new_crossing}
use Rattle.tsb_step.specs.tsb_ring.Moves.{if_passes, ring_moves, moves, is_ended, is_started}
use Rattle.tsb_step.specs.tsb_ring.Laws.{IsSymmetric, IsGiven, IsSound}
use Rattle.tsb_step.proofs.tsb_ring.MoveLemmas.{begins_joined}
use Rattle.tsb_step.proofs.tsb_ring.WaitLemmas.{first-passes, is_serving}
use Rattle.tsb_step.proofs.tsb_ring.WantLemmas.{pick_free}
use Rattle.tsb_step.proofs.tsb_ring.EntryLemmas.{begins_apart}
use Rattle.tsb_laws.proofs.safety.RingLemmas.{ring_joins_not}
use Rattle.tsb_step.proofs.OverlapLemmas.{starts_once}

-- ## As it begins

none_taken : (given : Given) (w : Option Want) → wants_no_phase w ≡ true → taken given None w ≡ None
none_taken given None h = refl
none_taken given (Some (Go p)) h = absurd (false≢true h)
none_taken given (Some Cross) h = refl
none_taken given (Some Rest) h = refl
none_taken given (Some Stop) h = refl

-- no ring starts a phase as a crossing begins
pub begins_alone : (plan : Plan) (s : State) (given : Given) (r : Ring) → begins plan s given ≡ true → starting plan s given r ≡ None
unfolding starting pick
begins_alone plan s given r h = go (s.commitment r) (serving plan given r) refl refl
  where
    go : (c o : Option ℕ) → s.commitment r ≡ c → serving plan given r ≡ o → starting plan s given r ≡ None
    go (Some c) o e k = absurd (ring_joins_not plan s given r c e (begins_joined plan s given r h))
    go None (Some q) e k = rw (e, k) refl
    go None None e k = rw (e, k) (none_taken given (want_of plan s given r) (rw k at (begins_joined plan s given r h)))

-- the green of each phase in service ends as a crossing begins
pub begins_ending : (plan : Plan) (s : State) (given : Given) (r : Ring) (p : ℕ) → IsSound plan given.interval s → in_ring plan r p ≡ true →
    in_service (given.interval p) ≡ true → is_green (given.interval p) ≡ true → begins plan s given ≡ true → is_ended (moves plan s given) p ≡ true
unfolding moves ends
begins_ending plan s given r p sound own serves green h = go r (is_serving plan s given r p sound own serves)
  where
    passes : is p (if_passes (λ q. is_green (given.interval q) && ends plan s given q) (Some p)) ≡ true
    passes = rw (green, h) (eq-eqb p p refl)

    or_right : (x y : Bool) → y ≡ true → (x || y) ≡ true
    or_right true y e = refl
    or_right false y e = e

    go : (x : Ring) → serving plan given x ≡ Some p → is_ended (moves plan s given) p ≡ true
    go Ring1 e = rw (e, passes) refl
    go Ring2 e = or_right (is p (ring_moves plan s given Ring1).ends) _ (rw e passes)

-- a phase starts only where some ring starts it
pub none_starts : (plan : Plan) (s : State) (given : Given) (p : ℕ) → starting plan s given Ring1 ≡ None → starting plan s given Ring2 ≡ None →
    is_started (moves plan s given) p ≡ false
unfolding moves
none_starts plan s given p one two = rw (one, two) refl

-- ## While it is under way

held_back : (crossing completed alone : Bool) (c : ℕ) → crossing ≡ true → completed ≡ false →
    (if (if crossing then completed else alone) then Some c else None) ≡ None
held_back crossing completed alone c e h = rw (e, h) refl

module _ (plan : Plan) (s : State) (given : Given) (yellow_done : ℕ → Bool) (symmetric : IsSymmetric plan) (sound : IsSound plan given.interval s) (ok : IsGiven plan given) (d : ℕ) (under_way : s.crossing ≡ Some d) where
  pub begins_no_more : begins plan s given ≡ false
  begins_no_more =
      elim (cases_Bool (begins plan s given)) [
        | inl b ↦ (let none : s.crossing ≡ None = begins_apart plan s given yellow_done symmetric sound ok b in
            let bad : None ≡ Some d = sym none ∙ under_way in absurd cc)
        | inr b ↦ b
      ]

  picks_none : (r : Ring) → pick plan s given r ≡ None
  picks_none r = go (pick plan s given r) refl
    where
      go : (o : Option ℕ) → pick plan s given r ≡ o → o ≡ None
      go None e = refl
      go (Some p) e =
          (let none : s.crossing ≡ None = (pick_free plan s given r p e).no_crossing in let bad : None ≡ Some d = sym none ∙ under_way in absurd cc)

  -- until it is completed no ring starts a phase, and then each starts its commitment
  pub starts_none : (r : Ring) → completes plan s given ≡ false → starting plan s given r ≡ None
  unfolding starting
  starts_none r h = go (s.commitment r) (serving plan given r) refl refl
    where
      go : (c o : Option ℕ) → s.commitment r ≡ c → serving plan given r ≡ o → starting plan s given r ≡ None
      go (Some c) o e k = rw e (held_back (is_some s.crossing) (completes plan s given) (may_start plan given r (Some c)) c (ap is_some under_way) h)
      go None None e k = rw (e, k) (picks_none r)
      go None (Some q) e k = rw (e, k) refl

  pub starts_all : (r : Ring) (c : ℕ) → completes plan s given ≡ true → s.commitment r ≡ Some c → starting plan s given r ≡ Some c
  unfolding starting
  starts_all r c h e = rw e (starts_once (is_some s.crossing) (completes plan s given) (may_start plan given r (Some c)) c (ap is_some under_way) h)

  -- the phases that start are those that some ring starts
  pub none_is_started : (p : ℕ) → completes plan s given ≡ false → is_started (moves plan s given) p ≡ false
  unfolding moves
  none_is_started p h = rw (starts_none Ring1 h, starts_none Ring2 h) refl

  pub is_started_then : (r : Ring) (c : ℕ) → completes plan s given ≡ true → s.commitment r ≡ Some c → is_started (moves plan s given) c ≡ true
  unfolding moves
  is_started_then Ring1 c h e = rw (starts_all Ring1 c h e, eq-eqb c c refl) refl
  is_started_then Ring2 c h e = or_right (is c (starting plan s given Ring1)) _ (rw (starts_all Ring2 c h e) (eq-eqb c c refl))
    where
      or_right : (x y : Bool) → y ≡ true → (x || y) ≡ true
      or_right true y k = refl
      or_right false y k = k

  pub goes_on : completes plan s given ≡ false → new_crossing plan s given ≡ Some d
  unfolding new_crossing
  goes_on h = rw (begins_no_more, h) under_way

  pub is_over : completes plan s given ≡ true → new_crossing plan s given ≡ None
  unfolding new_crossing
  is_over h = rw (begins_no_more, h) refl

  pub side_stays : completes plan s given ≡ false → new_side plan s given ≡ s.side
  unfolding new_side
  side_stays h = rw h refl

  pub side_goes : completes plan s given ≡ true → new_side plan s given ≡ d
  unfolding new_side
  side_goes h = rw (h, under_way) refl

  -- commitments stay as they are until then
  pub commitment_stays : (r : Ring) → completes plan s given ≡ false → new_commitment plan s given r ≡ s.commitment r
  unfolding new_commitment committed
  commitment_stays r h = go (s.commitment r) (serving plan given r) refl refl
    where
      go : (c o : Option ℕ) → s.commitment r ≡ c → serving plan given r ≡ o → new_commitment plan s given r ≡ c
      go (Some c) o e k = rw (starts_none r h, begins_no_more, e) refl
      go None None e k = rw (starts_none r h, begins_no_more, e, k) refl
      go None (Some q) e k = rw (starts_none r h, begins_no_more, e, k) (picks_none r)

  -- what a crossing that is not completed waits for
  pub data WaitsFor : Type 0 where
    clearance_of : (p : ℕ) → in_service (given.interval p) ≡ true → given.over p ≡ false → WaitsFor
    revert_of : (r : Ring) (c : ℕ) → s.commitment r ≡ Some c → given.reverted c ≡ false → WaitsFor

  of_serving : (r : Ring) (p : ℕ) → serving plan given r ≡ Some p → in_service (given.interval p) ≡ true
  unfolding serving
  of_serving r p e = (and_parts (in_ring plan r p) (in_service (given.interval p)) (first-passes (λ q. in_ring plan r q && in_service (given.interval q)) (phases plan) p e)).1

  own_waits : (r : Ring) → is_none_or_over given (serving plan given r) ≡ false → WaitsFor
  own_waits r h = go (serving plan given r) refl h
    where
      go : (o : Option ℕ) → serving plan given r ≡ o → is_none_or_over given o ≡ false → WaitsFor
      go None e k = absurd (true≢false k)
      go (Some q) e k = clearance_of q (of_serving r q e) k

  way_waits : (r : Ring) (c : ℕ) → makes_way plan given c (serving plan given r) ≡ false → WaitsFor
  way_waits r c h = go (serving plan given r) refl h
    where
      go : (o : Option ℕ) → serving plan given r ≡ o → makes_way plan given c o ≡ false → WaitsFor
      go None e k = absurd (true≢false k)
      go (Some q) e k = clearance_of q (of_serving r q e) (right (is_concurrent plan c q) (given.over q) k)
        where
          right : (a b : Bool) → (a || b) ≡ false → b ≡ false
          right true b x = absurd (true≢false x)
          right false b x = x

  ring_waits : (r : Ring) → may_start plan given r (s.commitment r) ≡ false → WaitsFor
  ring_waits r h = go (s.commitment r) refl h
    where
      go : (o : Option ℕ) → s.commitment r ≡ o → may_start plan given r o ≡ false → WaitsFor
      go None e k = own_waits r k
      go (Some c) e k = parts (is_none_or_over given (serving plan given r)) (given.reverted c) refl refl
        where
          parts : (a b : Bool) → is_none_or_over given (serving plan given r) ≡ a → given.reverted c ≡ b → WaitsFor
          parts false b x y = own_waits r x
          parts true false x y = revert_of r c e y
          parts true true x y = way_waits (other r) c (rw (x, y) at k)

  pub waits_for_one : completes plan s given ≡ false → WaitsFor
  unfolding completes
  waits_for_one h = go (may_start plan given Ring1 (s.commitment Ring1)) (may_start plan given Ring2 (s.commitment Ring2)) refl refl
    where
      go : (a b : Bool) → may_start plan given Ring1 (s.commitment Ring1) ≡ a → may_start plan given Ring2 (s.commitment Ring2) ≡ b → WaitsFor
      go false b x y = ring_waits Ring1 x
      go true false x y = ring_waits Ring2 y
      go true true x y = let bad : true ≡ false = rw (under_way, x, y) at h in absurd (true≢false bad)
