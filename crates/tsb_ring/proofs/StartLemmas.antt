-- What starts in a tick, and what serves after it: the phases that started, and those that were in service and did not
-- clear. Each is a claim of its ring before the tick.
use Rattle.std.proofs.Common.{◌≡◌, ℕ, Bool, true, false, cond, ◌&&◌, ◌||◌, Option, Some, None, is_some, is_none, sym, refl, inl, inr, ◌⊎◌, ◌∙◌}
use Rattle.std.proofs.lemmas.Bool.{eq-eqb, cases_Bool, true≢false, false≢true, or_cases, or_left, or_right}
use Rattle.tsb_types.specs.declared.interval.Interval.{Interval}
use Rattle.tsb_types.specs.declared.interval.Interval.TheVariants.{Red, Green, Yellow, RedClear}
use Rattle.tsb_types.specs.Intervals.{in_service, is_yellow}
use Rattle.tsb_types.specs.Lists.{among, is}
use Rattle.tsb_objects.specs.tsb_plan.Plan.{Plan, phases}
use Rattle.tsb_ring.specs.Rings.{Ring, Ring1, Ring2, other, State, Given, in_ring, serving}
use Rattle.tsb_ring.specs.Wants.{pick}
use Rattle.tsb_ring.specs.Crossings.{committed}
use Rattle.tsb_ring.specs.Next.{is_none_or_over, makes_way, may_start, completes, idle_pick, start_now, starting, clears}
use Rattle.tsb_ring.specs.Moves.{if_passes, ring_moves, moves, is_ended, is_cleared, is_started, interval_after}
use Rattle.tsb_ring.specs.Laws.{Serves, IsSymmetric, IsGiven, IsSound}
use Rattle.tsb_ring.proofs.MoveLemmas.{and_three, is-Some, ends_ready, completes_may}
use Rattle.tsb_ring.proofs.WaitLemmas.{cond_is, is_serving}
use Rattle.tsb_ring.proofs.WantLemmas.{Wanted, pick_free, pick_wanted}
use Rattle.tsb_ring.proofs.ClaimLemmas.{same_ring, ring_of_is, Claim, serves, promises, picks}
use Rattle.tsb_types.proofs.IntervalLemmas.{serves-green}

pub may_clear : (plan : Plan) (s : State) (given : Given) (r : Ring) (c : Option ℕ) → may_start plan given r c ≡ true → is_none_or_over given (serving plan given r) ≡ true
may_clear plan s given r None h = h
may_clear plan s given r (Some c) h = (and_three (is_none_or_over given (serving plan given r)) (given.reverted c) (makes_way plan given c (serving plan given (other r))) h).0

-- what holds of a phase that starts
pub record Starting (plan : Plan) (s : State) (given : Given) (r : Ring) (p : ℕ) : Type 0 where
  pub ringed : in_ring plan r p ≡ true
  pub listed : among p (phases plan) ≡ true
  pub idle_or_over : is_none_or_over given (serving plan given r) ≡ true
  pub claim : Claim plan s given r p
  pub in_crossing : is_some s.crossing ≡ true → (completes plan s given ≡ true) × (s.commitment r ≡ Some p)

after_moves : (started cleared ended done : Bool) (i : Interval) → in_service (cond started Green (cond cleared Red (cond ended Yellow (cond (is_yellow i && done) RedClear i)))) ≡ true →
    started ≡ false → (cleared ≡ false) × ((ended ≡ true) ⊎ (in_service i ≡ true))
after_moves true cleared ended done i h e = absurd (cc)
after_moves false true ended done i h e = absurd (cc)
after_moves false false true done i h e = (refl, inl refl)
after_moves false false false done Red h e = absurd (cc)
after_moves false false false done Green h e = (refl, inr refl)
after_moves false false false done Yellow h e = (refl, inr refl)
after_moves false false false done RedClear h e = (refl, inr refl)

-- the phase in service that clears is cleared
passes : (test : ℕ → Bool) (q : ℕ) → test q ≡ true → is q (if_passes test (Some q)) ≡ true
passes test q h = rw h (eq-eqb q q refl)

module _ (plan : Plan) (s : State) (given : Given) (yellow_done : ℕ → Bool) (symmetric : IsSymmetric plan) (sound : IsSound plan given.interval s) (ok : IsGiven plan given) where
  -- ## Starts

  committed_starts : (r : Ring) (p c : ℕ) → s.commitment r ≡ Some c → start_now plan s given r (Some c) ≡ Some p → Starting plan s given r p
  committed_starts r p c e h =
      elim (cond_is (cond (is_some s.crossing) (completes plan s given) (may_start plan given r (Some c))) (Some c) None (Some p) h) [
        | inl k ↦ (let same : Some c ≡ Some p = k.1 in
            let own : s.commitment r ≡ Some p = cc in
            elim (cond_is (is_some s.crossing) (completes plan s given) (may_start plan given r (Some c)) true k.0) [
              | inl two ↦ record {
                ringed = (sound.owned r p own).0;
                listed = (sound.owned r p own).1;
                claim = promises own;
                idle_or_over = may_clear plan s given r (s.commitment r) (completes_may plan s given r two.1);
                in_crossing = λ x. (two.1, own);
              }
              | inr two ↦ record {
                ringed = (sound.owned r p own).0;
                listed = (sound.owned r p own).1;
                claim = promises own;
                idle_or_over = may_clear plan s given r (Some c) two.1;
                in_crossing = λ x. absurd (true≢false (sym x ∙ two.0));
              }
            ])
        | inr k ↦ (let none : None ≡ Some p = k.1 in absurd (cc))
      ]

  idle_starts : (r : Ring) (p : ℕ) (o : Option ℕ) → serving plan given r ≡ o → idle_pick o (pick plan s given r) ≡ Some p → Starting plan s given r p
  idle_starts r p None e h =
      let w : Wanted plan s given r _ p = pick_wanted plan s given r p ok h in
      record {
        ringed = w.ringed;
        listed = w.listed;
        claim = picks h;
        idle_or_over = rw e refl;
        in_crossing = λ x. (let f : s.crossing ≡ None = (pick_free plan s given r p h).no_crossing in absurd (false≢true (rw f at x)));
      }
  idle_starts r p (Some q) e h = absurd (cc)

  start_cases : (r : Ring) (p : ℕ) (c : Option ℕ) → s.commitment r ≡ c → start_now plan s given r c ≡ Some p → Starting plan s given r p
  start_cases r p (Some c) e h = committed_starts r p c e h
  start_cases r p None e h = idle_starts r p (serving plan given r) refl h

  pub starting_is : (r : Ring) (p : ℕ) → starting plan s given r ≡ Some p → Starting plan s given r p
  unfolding starting
  starting_is r p h = start_cases r p (s.commitment r) refl h

  -- ## The phases in service after the tick: those that started, and those that were and did not clear

  -- it was in service, and does not clear
  pub record Stays (p : ℕ) : Type 0 where
    pub was : Serves given.interval p
    pub kept : is_cleared (moves plan s given) p ≡ false

  was_served : (p : ℕ) → (is_ended (moves plan s given) p ≡ true) ⊎ (in_service (given.interval p) ≡ true) → Serves given.interval p
  was_served p (inl e) = serves-green (given.interval p) (ends_ready plan s given p e).0
  was_served p (inr k) = k

  starts_in : (p : ℕ) → is_started (moves plan s given) p ≡ true → (starting plan s given Ring1 ≡ Some p) ⊎ (starting plan s given Ring2 ≡ Some p)
  unfolding moves
  starts_in p e =
      elim (or_cases (is p (starting plan s given Ring1)) (is p (starting plan s given Ring2)) e) [
        | inl k ↦ inl (is-Some p (starting plan s given Ring1) k)
        | inr k ↦ inr (is-Some p (starting plan s given Ring2) k)
      ]

  pub after_tick : (p : ℕ) → Serves (interval_after (moves plan s given) yellow_done given.interval) p → ((starting plan s given Ring1 ≡ Some p) ⊎ (starting plan s given Ring2 ≡ Some p)) ⊎ Stays p
  unfolding interval_after
  after_tick p h =
      elim (cases_Bool (is_started (moves plan s given) p)) [
        | inl e ↦ inl (starts_in p e)
        | inr e ↦ (let two : (is_cleared (moves plan s given) p ≡ false) × ((is_ended (moves plan s given) p ≡ true) ⊎ (in_service (given.interval p) ≡ true)) =
            after_moves (is_started (moves plan s given) p) (is_cleared (moves plan s given) p) (is_ended (moves plan s given) p) (yellow_done p) (given.interval p) h e in
            inr (record { was = was_served p two.1; kept = two.0 }))
      ]

  ring_cleared : (r : Ring) (q : ℕ) → serving plan given r ≡ Some q → clears plan s given q ≡ true → is q (ring_moves plan s given r).clears ≡ true
  ring_cleared r q e h = rw e (passes (clears plan s given) q h)

  pub is_cleared_in : (r : Ring) (q : ℕ) → serving plan given r ≡ Some q → clears plan s given q ≡ true → is_cleared (moves plan s given) q ≡ true
  unfolding moves
  is_cleared_in Ring1 q e h = or_left (is q (ring_moves plan s given Ring1).clears) (is q (ring_moves plan s given Ring2).clears) (ring_cleared Ring1 q e h)
  is_cleared_in Ring2 q e h = or_right (is q (ring_moves plan s given Ring1).clears) (is q (ring_moves plan s given Ring2).clears) (ring_cleared Ring2 q e h)

  by_ring : (r r' : Ring) (p : ℕ) → in_ring plan r p ≡ true → starting plan s given r' ≡ Some p → starting plan s given r ≡ Some p
  by_ring r r' p own h =
      let same : r ≡ r' = same_ring plan r r' p own (starting_is r' p h).ringed in
      rw same h

  pub after_in : (r : Ring) (p : ℕ) → in_ring plan r p ≡ true → Serves (interval_after (moves plan s given) yellow_done given.interval) p → (starting plan s given r ≡ Some p) ⊎ Stays p
  after_in r p own h =
      elim (after_tick p h) [
        | inl k ↦ inl (elim k [ inl one ↦ by_ring r Ring1 p own one | inr two ↦ by_ring r Ring2 p own two ])
        | inr k ↦ inr k
      ]

  -- where its ring starts a phase, the one that was in service is gone
  pub gone : (r : Ring) (p q : ℕ) → starting plan s given r ≡ Some p → in_ring plan r q ≡ true → Stays q → ⊥
  unfolding clears
  gone r p q h own stays =
      let serves : serving plan given r ≡ Some q = is_serving plan s given r q sound own stays.was in
      let done : given.over q ≡ true = (rw serves at (starting_is r p h).idle_or_over) in
      true≢false (sym (is_cleared_in r q serves (rw (ring_of_is plan r q own, done, h) (or-true (is_none (committed plan s given r))))) ∙ stays.kept)
    where
      or-true : (b : Bool) → (true && (b || true)) ≡ true
      or-true true = refl
      or-true false = refl

  pub claim_after : (r : Ring) (p : ℕ) → in_ring plan r p ≡ true → Serves (interval_after (moves plan s given) yellow_done given.interval) p → Claim plan s given r p
  claim_after r p own h =
      elim (after_in r p own h) [
        | inl k ↦ (starting_is r p k).claim
        | inr k ↦ serves own k.was
      ]
