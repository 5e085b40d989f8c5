-- The rings in a tick by calls, where all phases of one side go together and no crossing is under way: what a ring
-- wants, what it starts and commits to, and where it stays. For the laws that called phases are served, in free
-- operation and in patterns, and `coordination_goes_on`.
use Rattle.std.proofs.Common.{◌≡◌, ℕ, Bool, true, false, ◌&&◌, ◌||◌, if◌then◌else◌, Option, Some, None, is_none, refl, sym, ap, ◌∙◌, inl, inr, ◌⊎◌}
use Rattle.std.proofs.lemmas.Bool.{eqb-true, eq-eqb, true≢false, false≢true, false_from_ne_true, or_right, and_right}
use Rattle.std.proofs.lemmas.Option.{cond_some}
use Rattle.tsb_step.specs.tsb_types.declared.interval.Interval.{Interval}
use Rattle.tsb_step.specs.tsb_types.declared.interval.Interval.TheVariants.{Red, Green, Yellow, RedClear}
use Rattle.tsb_step.specs.tsb_types.Intervals.{is_green, in_service}
use Rattle.tsb_step.specs.tsb_types.Lists.{first, among, later, is}
use Rattle.tsb_step.specs.tsb_plan.Plan.{Plan, is_enabled, is_concurrent, side_of}
use Rattle.tsb_step.specs.tsb_ring.declared.want.Want.{Want}
use Rattle.tsb_step.specs.tsb_ring.declared.want.Want.TheVariants.{Go, Cross}
use Rattle.tsb_step.specs.tsb_ring.Rings.{Ring, Ring1, Ring2, other, State, Given, in_ring, own_ring, serving}
use Rattle.tsb_step.specs.tsb_ring.Wants.{concurrent_with, fits, is_on_side, is_candidate, is_called_elsewhere, want_by_calls, want_found, is_idle_or_green, want, picked_before, want_of, pick}
use Rattle.tsb_step.specs.tsb_ring.Crossings.{ring_joins, begins, committed}
use Rattle.tsb_step.specs.tsb_ring.Next.{is_none_or_over, makes_way, may_start, completes, starting, leaves, ends, new_last, new_commitment, new_side, new_crossing, next}
use Rattle.tsb_step.specs.tsb_ring.Moves.{if_passes, ring_moves, moves, is_ended}
use Rattle.tsb_step.specs.tsb_ring.Laws.{IsGiven, IsSound}
use Rattle.tsb_step.specs.TimeLaws.{IsSided}
use Rattle.tsb_step.proofs.tsb_ring.ClaimLemmas.{ring_of_is}
use Rattle.tsb_step.proofs.tsb_ring.MoveLemmas.{begins_joined}
use Rattle.tsb_step.proofs.tsb_ring.WaitLemmas.{called_candidate}
use Rattle.tsb_step.proofs.tsb_ring.WantLemmas.{and_four, pick_want, seen_is}
use Rattle.tsb_laws.specs.ServedCalls.{IsFullyConcurrent}
use Rattle.tsb_laws.proofs.safety.RingLemmas.{ring_joins_not}
use Rattle.tsb_laws.proofs.safety.SideSoughtLemmas.{none_first}
use Rattle.tsb_laws.proofs.operation.preempt.PressLemmas.{serving_is}

-- what holds of the rings in such a tick
pub record IsFair (plan : Plan) (s : State) (given : Given) : Type 0 where
  pub free : given.target ≡ None
  pub full : IsFullyConcurrent plan
  pub called_on : (p : ℕ) → given.callable p ≡ true → is_enabled plan p ≡ true
  pub serves_on : (p : ℕ) → in_service (given.interval p) ≡ true → is_enabled plan p ≡ true
  pub promised_on : (r : Ring) (c : ℕ) → s.commitment r ≡ Some c → is_enabled plan c ≡ true
  pub sided : IsSided plan given.interval s
  pub sound : IsSound plan given.interval s
  pub told : IsGiven plan given
  pub outside : s.crossing ≡ None

module _ (plan : Plan) (s : State) (given : Given) (fair : IsFair plan s given) where
  -- ## Phases across

  -- an enabled phase of the other ring, on the side that is served
  record Across (r : Ring) (q : ℕ) : Type 0 where
    ringed : in_ring plan (other r) q ≡ true
    on : is_enabled plan q ≡ true
    here : side_of plan q ≡ s.side

  goes_with : (r : Ring) (p : ℕ) → in_ring plan r p ≡ true → is_enabled plan p ≡ true → side_of plan p ≡ s.side → (o : Option ℕ) →
      ((q : ℕ) → o ≡ Some q → Across r q) → concurrent_with plan p o ≡ true
  goes_with r p own on here None h = refl
  goes_with r p own on here (Some q) h = let it = h q refl in fair.full r p q own it.ringed on it.on (here ∙ sym it.here)

  serves_across : (r : Ring) (q : ℕ) → serving plan given (other r) ≡ Some q → Across r q
  serves_across r q e =
      let both = serving_is plan given (other r) q e in
      record { ringed = both.0; on = fair.serves_on q both.1; here = fair.sided.serves q both.1 }

  promised_across : (r : Ring) (q : ℕ) → s.commitment (other r) ≡ Some q → Across r q
  promised_across r q e = record {
    ringed = (fair.sound.owned (other r) q e).0;
    on = fair.promised_on (other r) q e;
    here = fair.sided.inside fair.outside (other r) q e;
  }

  -- ## Wants

  -- a want is found by calls
  calls_is : (r : Ring) (w : Want) → want_of plan s given r ≡ Some w → want_by_calls plan s given r (picked_before plan s given r) ≡ w
  unfolding want_of want
  calls_is r w h =
      ap (λ (t : Option (ℕ → Bool)). want_found plan s given r (picked_before plan s given r) t) (sym fair.free)
      ∙ (cond_some (is_none s.crossing && is_none (s.commitment r) && is_idle_or_green given (serving plan given r))
      (want_found plan s given r (picked_before plan s given r) given.target) w h).1

  pub want_is : (r : Ring) → s.commitment r ≡ None → is_idle_or_green given (serving plan given r) ≡ true →
      want_of plan s given r ≡ Some (want_by_calls plan s given r (picked_before plan s given r))
  unfolding want_of want
  want_is r none idle =
      ap (λ (b : Bool). if b then Some (want_found plan s given r (picked_before plan s given r) given.target) else None) free_now
      ∙ ap (λ (t : Option (ℕ → Bool)). Some (want_found plan s given r (picked_before plan s given r) t)) fair.free
    where
      free_now : (is_none s.crossing && is_none (s.commitment r) && is_idle_or_green given (serving plan given r)) ≡ true
      free_now = rw (fair.outside, none, idle) refl

  pub record Candidate (r : Ring) (p : ℕ) : Type 0 where
    pub ringed : in_ring plan r p ≡ true
    pub here : side_of plan p ≡ s.side
    pub called : given.callable p ≡ true

  pub candidate_is : (r : Ring) (picked : Option ℕ) (p : ℕ) → is_candidate plan s given r picked p ≡ true → Candidate r p
  candidate_is r picked p h =
      let all = and_four (in_ring plan r p) (is_on_side plan s.side p) (given.callable p) (fits plan s given r picked p) h in
      record { ringed = all.0; here = eqb-true (side_of plan p) s.side all.1; called = all.2 }

  picked_is : (r : Ring) (q : ℕ) → pick plan s given r ≡ Some q → Candidate r q
  picked_is r q e =
      candidate_is r (picked_before plan s given r) q
      (called_candidate plan s given r (picked_before plan s given r) q (calls_is r (Go q) (pick_want plan s given r q e)))

  picked_across : (r : Ring) (q : ℕ) → picked_before plan s given r ≡ Some q → Across r q
  picked_across Ring1 q e = absurd cc
  picked_across Ring2 q e =
      let it : Candidate Ring1 q = picked_is Ring1 q (sym (seen_is plan s given) ∙ e) in
      record { ringed = it.ringed; on = fair.called_on q it.called; here = it.here }

  -- each callable phase of the ring on this side fits
  pub candidate : (r : Ring) (p : ℕ) → in_ring plan r p ≡ true → side_of plan p ≡ s.side → given.callable p ≡ true →
      is_candidate plan s given r (picked_before plan s given r) p ≡ true
  unfolding fits
  candidate r p own here called =
      rw (
        own,
        eq-eqb (side_of plan p) s.side here,
        called,
        goes_with r p own (fair.called_on p called) here (serving plan given (other r)) (serves_across r),
        goes_with r p own (fair.called_on p called) here (s.commitment (other r)) (promised_across r),
        goes_with r p own (fair.called_on p called) here (picked_before plan s given r) (picked_across r),
      ) refl

  -- it goes to the first of them that comes later
  pub record Goes (r : Ring) : Type 0 where
    pub one : ℕ
    pub wanted : want_of plan s given r ≡ Some (Go one)
    pub found : first (is_candidate plan s given r (picked_before plan s given r)) (later (s.last r) (given.sequence r)) ≡ Some one

  goes_to : (r : Ring) (c : ℕ) → s.commitment r ≡ None → is_idle_or_green given (serving plan given r) ≡ true →
      first (is_candidate plan s given r (picked_before plan s given r)) (later (s.last r) (given.sequence r)) ≡ Some c → Goes r
  goes_to r c none idle e = record { one = c; wanted = want_is r none idle ∙ rw e refl; found = e }

  pub goes_on : (r : Ring) (q : ℕ) → in_ring plan r q ≡ true → side_of plan q ≡ s.side → given.callable q ≡ true →
      among q (later (s.last r) (given.sequence r)) ≡ true → s.commitment r ≡ None → is_idle_or_green given (serving plan given r) ≡ true → Goes r
  goes_on r q own here called there none idle = go (first test (later (s.last r) (given.sequence r))) refl
    where
      test : ℕ → Bool
      test = is_candidate plan s given r (picked_before plan s given r)

      go : (o : Option ℕ) → first test (later (s.last r) (given.sequence r)) ≡ o → Goes r
      go None e = absurd (none_first test (later (s.last r) (given.sequence r)) q there (candidate r q own here called) e)
      go (Some c) e = goes_to r c none idle e

  -- where another side is called it goes to one that comes later, or wants to cross
  pub data Wishes (r : Ring) : Type 0 where
    goes : Goes r → Wishes r
    crosses : want_of plan s given r ≡ Some Cross → Wishes r

  pub wishes : (r : Ring) → is_called_elsewhere plan s given ≡ true → s.commitment r ≡ None → is_idle_or_green given (serving plan given r) ≡ true → Wishes r
  wishes r away none idle = go (first test (later (s.last r) (given.sequence r))) refl
    where
      test : ℕ → Bool
      test = is_candidate plan s given r (picked_before plan s given r)

      go : (o : Option ℕ) → first test (later (s.last r) (given.sequence r)) ≡ o → Wishes r
      go None e = crosses (want_is r none idle ∙ rw (e, away) refl)
      go (Some c) e = goes (goes_to r c none idle e)

  -- ## No crossing begins

  not_begun : (r : Ring) → ring_joins plan s given r ≡ false → begins plan s given ≡ false
  not_begun r h = false_from_ne_true _ (λ b. true≢false (sym (begins_joined plan s given r b) ∙ h))

  pub none_begins_bound : (r : Ring) (c : ℕ) → s.commitment r ≡ Some c → begins plan s given ≡ false
  none_begins_bound r c e = false_from_ne_true _ (λ b. ring_joins_not plan s given r c e (begins_joined plan s given r b))

  pub none_begins : (r : Ring) (c : ℕ) → want_of plan s given r ≡ Some (Go c) → is_idle_or_green given (serving plan given r) ≡ true → begins plan s given ≡ false
  none_begins r c w idle = not_begun r (go (serving plan given r) refl idle)
    where
      by : (q : ℕ) → serving plan given r ≡ Some q → (i : Interval) → given.interval q ≡ i → is_green i ≡ true → ring_joins plan s given r ≡ false
      by q e Red f k = absurd (false≢true k)
      by q e Green f k = rw (e, f, w) (and_right (given.ready q) false refl)
      by q e Yellow f k = absurd (false≢true k)
      by q e RedClear f k = absurd (false≢true k)

      go : (o : Option ℕ) → serving plan given r ≡ o → is_idle_or_green given o ≡ true → ring_joins plan s given r ≡ false
      go None e k = rw (e, w) refl
      go (Some q) e k = by q e (given.interval q) refl k

  -- ## What it starts

  pub starts_none : (r : Ring) (q : ℕ) → s.commitment r ≡ None → serving plan given r ≡ Some q → starting plan s given r ≡ None
  unfolding starting
  starts_none r q none e = rw (none, e) refl

  pub starts_picked : (r : Ring) → s.commitment r ≡ None → serving plan given r ≡ None → starting plan s given r ≡ pick plan s given r
  unfolding starting
  starts_picked r none e = rw (none, e) refl

  -- what a commitment waits for
  pub data Delays (r : Ring) (c : ℕ) : Type 0 where
    clearing : (p : ℕ) → serving plan given r ≡ Some p → given.over p ≡ false → Delays r c
    reverting : given.reverted c ≡ false → Delays r c

  makes_way_for : (r : Ring) (c : ℕ) → s.commitment r ≡ Some c → makes_way plan given c (serving plan given (other r)) ≡ true
  makes_way_for r c e = go (serving plan given (other r)) refl
    where
      go : (o : Option ℕ) → serving plan given (other r) ≡ o → makes_way plan given c o ≡ true
      go None k = refl
      go (Some q) k =
          let it : Across r q = serves_across r q k in
          let both : is_concurrent plan c q ≡ true =
          fair.full r c q (fair.sound.owned r c e).0 it.ringed (fair.promised_on r c e) it.on (fair.sided.inside fair.outside r c e ∙ sym it.here) in
          rw both refl

  starts_if : (r : Ring) (c : ℕ) (b : Bool) → s.commitment r ≡ Some c → may_start plan given r (Some c) ≡ b →
      starting plan s given r ≡ (if b then Some c else None)
  unfolding starting
  starts_if r c b e h = rw (e, fair.outside) (ap (λ (x : Bool). if x then Some c else None) h)

  pub starts_or_waits : (r : Ring) (c : ℕ) → s.commitment r ≡ Some c →
      (starting plan s given r ≡ Some c) ⊎ ((starting plan s given r ≡ None) × Delays r c)
  starts_or_waits r c e = go (is_none_or_over given (serving plan given r)) (given.reverted c) refl refl
    where
      own : (o : Option ℕ) → serving plan given r ≡ o → is_none_or_over given o ≡ false → Delays r c
      own None k h = absurd (true≢false h)
      own (Some p) k h = clearing p k h

      go : (a b : Bool) → is_none_or_over given (serving plan given r) ≡ a → given.reverted c ≡ b →
          (starting plan s given r ≡ Some c) ⊎ ((starting plan s given r ≡ None) × Delays r c)
      go true true k l = inl (starts_if r c true e (rw (k, l, makes_way_for r c e) refl))
      go true false k l = inr (starts_if r c false e (rw (k, l) refl), reverting l)
      go false b k l = inr (starts_if r c false e (rw k refl), own (serving plan given r) refl k)

  -- ## What it picks

  pub picks_idle : (r : Ring) (c : ℕ) (b : Bool) → serving plan given r ≡ None → want_of plan s given r ≡ Some (Go c) → given.reverted c ≡ b →
      pick plan s given r ≡ (if b then Some c else None)
  unfolding pick
  picks_idle r c b e w h = rw (e, w) (ap (λ (x : Bool). if x then Some c else None) h)

  pub picks_green : (r : Ring) (p c : ℕ) (b : Bool) → serving plan given r ≡ Some p → want_of plan s given r ≡ Some (Go c) → given.ready p ≡ b →
      pick plan s given r ≡ (if b then Some c else None)
  unfolding pick
  picks_green r p c b e w h = rw (e, w) (ap (λ (x : Bool). if x then Some c else None) h)

  -- the green that it leaves ends
  pub ends_by_want : (r : Ring) (p c : ℕ) → serving plan given r ≡ Some p → in_ring plan r p ≡ true → is_green (given.interval p) ≡ true →
      given.ready p ≡ true → want_of plan s given r ≡ Some (Go c) → is_ended (moves plan s given) p ≡ true
  unfolding moves ends
  ends_by_want r p c serves own green ready h = by r serves passes
    where
      passes : is p (if_passes (λ q. is_green (given.interval q) && (begins plan s given || (given.ready q && leaves (want_of plan s given (own_ring plan q))))) (Some p)) ≡ true
      passes = rw (green, ready, ring_of_is plan r p own, h) (rw (or_right (begins plan s given) true refl) (eq-eqb p p refl))

      by : (x : Ring) → serving plan given x ≡ Some p →
          is p (if_passes (λ q. is_green (given.interval q) && (begins plan s given || (given.ready q && leaves (want_of plan s given (own_ring plan q))))) (Some p)) ≡ true →
          is_ended (moves plan s given) p ≡ true
      by Ring1 e l = rw (e, l) refl
      by Ring2 e l = or_right (is p (ring_moves plan s given Ring1).ends) _ (rw e l)

  -- ## The rings after the tick, where no crossing begins

  module _ (none : begins plan s given ≡ false) where
    not_completed : completes plan s given ≡ false
    unfolding completes
    not_completed = rw fair.outside refl

    pub stays_outside : (next plan s given).crossing ≡ None
    unfolding next new_crossing
    stays_outside = rw (none, not_completed) fair.outside

    pub stays_beside : (next plan s given).side ≡ s.side
    unfolding next new_side
    stays_beside = rw not_completed refl

    pub last_started : (r : Ring) (c : ℕ) → starting plan s given r ≡ Some c → (next plan s given).last r ≡ Some c
    unfolding next new_last
    last_started r c e = rw e refl

    pub last_stays : (r : Ring) → starting plan s given r ≡ None → (next plan s given).last r ≡ s.last r
    unfolding next new_last
    last_stays r e = rw (e, not_completed) refl

    pub promise_kept : (r : Ring) (c : ℕ) → starting plan s given r ≡ Some c → (next plan s given).commitment r ≡ None
    unfolding next new_commitment
    promise_kept r c e = rw e refl

    pub promise_stays : (r : Ring) (c : ℕ) → starting plan s given r ≡ None → s.commitment r ≡ Some c → (next plan s given).commitment r ≡ Some c
    unfolding next new_commitment committed
    promise_stays r c e k = rw (e, none, k) refl

    pub promise_made : (r : Ring) (p : ℕ) → starting plan s given r ≡ None → s.commitment r ≡ None → serving plan given r ≡ Some p →
        (next plan s given).commitment r ≡ pick plan s given r
    unfolding next new_commitment committed
    promise_made r p e k l = rw (e, none, k, l) refl

    pub none_promised : (r : Ring) → starting plan s given r ≡ None → s.commitment r ≡ None → serving plan given r ≡ None →
        (next plan s given).commitment r ≡ None
    unfolding next new_commitment committed
    none_promised r e k l = rw (e, none, k, l) refl
