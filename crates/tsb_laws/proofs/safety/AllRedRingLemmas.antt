-- What one tick makes of two rings that are idle, where each phase has passed its red revert: a commitment starts; where there is
-- none, some phase starts, or a crossing begins that commits a ring.
use Rattle.std.proofs.Common.{◌≡◌, ℕ, ◌==◌, Bool, true, false, not, ◌&&◌, ◌||◌, if◌then◌else◌, List, [], ◌∷◌, Option, Some, None, is_some, is_none, refl, sym, ap, subst, inl, inr, ◌⊎◌, ◌∙◌}
use Rattle.std.proofs.lemmas.Bool.{and_parts, cases_Bool, eq-eqb, false≢true, not_from_false, or_cases, or_left, or_right}
use Rattle.tsb_step.specs.tsb_types.Lists.{first, among, is, after, up_to, later, not_later, or_number}
use Rattle.tsb_step.specs.tsb_plan.Plan.{Plan, phases, is_enabled, sides_after}
use Rattle.tsb_step.specs.tsb_rules.Rules.{first_broken}
use Rattle.tsb_step.specs.tsb_ring.declared.want.Want.{Want}
use Rattle.tsb_step.specs.tsb_ring.declared.want.Want.TheVariants.{Go, Cross, Rest, Stop}
use Rattle.tsb_step.specs.tsb_ring.Rings.{Ring, Ring1, Ring2, other, State, Given, in_ring, serving}
use Rattle.tsb_step.specs.tsb_ring.Wants.{go_or, concurrent_with, fits, is_on_side, is_candidate, is_called_elsewhere, want_by_calls, is_targeted, targeted_here, is_targeted_elsewhere, want_by_target, want_found, is_idle_or_green, want, picked_before, want_of, pick}
use Rattle.tsb_step.specs.tsb_ring.Crossings.{wants_cross, wants_no_phase, ring_joins, begins, is_called_on, side_sought, target_side, is_called_in, called_in_ring_1, called_in_ring_2, entry_by_calls, entry_for, entry, committed}
use Rattle.tsb_step.specs.tsb_ring.Next.{may_start, completes, starting, new_commitment}
use Rattle.tsb_step.specs.tsb_ring.Moves.{moves, is_started}
use Rattle.tsb_step.specs.tsb_ring.Laws.{IsListed, IsPairwiseConcurrent}
use Rattle.tsb_step.proofs.tsb_ring.WaitLemmas.{first-passes}
use Rattle.tsb_step.proofs.tsb_ring.WantLemmas.{seen_is}
use Rattle.tsb_laws.proofs.safety.ChoiceLemmas.{Chosen, is_called, is_wanted, want_chosen}
use Rattle.tsb_laws.proofs.safety.SideSoughtLemmas.{Found, none_first, some_found, found_some, goes_to_other}
use Rattle.tsb_laws.proofs.safety.CrossingRingLemmas.{begins_alone}

-- ## Lists

-- what is in a list comes later than a phase or not
split_at : (l p : ℕ) (ps : List ℕ) → among p ps ≡ true → (among p (after l ps) ≡ true) ⊎ (among p (up_to l ps) ≡ true)
split_at l p [] h = absurd (false≢true h)
split_at l p (q ∷ qs) h =
    elim (cases_Bool (q == l)) [
      | inl e ↦ elim (or_cases (q == p) (among p qs) h) [
        | inl k ↦ inr (rw e (or_left (q == p) false k))
        | inr k ↦ inl (rw e k)
      ]
      | inr e ↦ elim (or_cases (q == p) (among p qs) h) [
        | inl k ↦ inr (rw e (or_left (q == p) (among p (up_to l qs)) k))
        | inr k ↦ elim (split_at l p qs k) [
          | inl x ↦ inl (rw e x)
          | inr x ↦ inr (rw e (or_right (q == p) (among p (up_to l qs)) x))
        ]
      ]
    ]

pub later_or_not : (last : Option ℕ) (p : ℕ) (ps : List ℕ) → among p ps ≡ true → (among p (later last ps) ≡ true) ⊎ (among p (not_later last ps) ≡ true)
later_or_not None p ps h = inl h
later_or_not (Some l) p ps h = split_at l p ps h

-- ## Tests

all_three : (a b c : Bool) → a ≡ true → b ≡ true → c ≡ true → (a && b && c) ≡ true
all_three a b c h k l = rw (h, k, l) refl

if_true : (b : Bool) (w : Want) → b ≡ true → (if b then Some w else None) ≡ Some w
if_true true w h = refl
if_true false w h = absurd (false≢true h)

passes : (crossing completed alone : Bool) (c : ℕ) → (crossing ≡ true → completed ≡ true) → (crossing ≡ false → alone ≡ true) →
    (if (if crossing then completed else alone) then Some c else None) ≡ Some c
passes true completed alone c h k = rw (h refl) refl
passes false completed alone c h k = rw (k refl) refl

-- ## A want that leaves the ring where it is

abbrev is_stay : Want → Bool
is_stay (Go p) = false
is_stay Cross = false
is_stay Rest = true
is_stay Stop = true

stay_of_go : (o : Option ℕ) (w : Want) → is_stay (go_or o w) ≡ true → (o ≡ None) × (is_stay w ≡ true)
stay_of_go None w h = (refl, h)
stay_of_go (Some p) w h = absurd (false≢true h)

stay_of_cross : (b : Bool) (w : Want) → is_stay (if b then Cross else w) ≡ true → (b ≡ false) × (is_stay w ≡ true)
stay_of_cross true w h = absurd (false≢true h)
stay_of_cross false w h = (refl, h)

stays_no_phase : (w : Want) → is_stay w ≡ true → wants_no_phase (Some w) ≡ true
stays_no_phase (Go p) h = absurd (false≢true h)
stays_no_phase Cross h = refl
stays_no_phase Rest h = refl
stays_no_phase Stop h = refl

-- ## What the rings are given

pub record IsServing (plan : Plan) (given : Given) : Type 0 where
  pub listed : (p : ℕ) → is_enabled plan p ≡ true → IsListed plan p
  pub ringed : (p : ℕ) → is_enabled plan p ≡ true → (r : Ring) × (in_ring plan r p ≡ true)
  pub sequenced : (r : Ring) (p : ℕ) → is_enabled plan p ≡ true → in_ring plan r p ≡ true → among p (given.sequence r) ≡ true
  pub called_on : (p : ℕ) → given.callable p ≡ true → is_enabled plan p ≡ true
  pub reverted : (p : ℕ) → IsListed plan p → given.reverted p ≡ true

-- some phase is wanted
pub data SomeWanted (plan : Plan) (given : Given) : Type 0 where
  by_target : (target : ℕ → Bool) (p : ℕ) → given.target ≡ Some target → IsListed plan p → is_targeted plan target p ≡ true → SomeWanted plan given
  by_calls : (p : ℕ) → given.target ≡ None → given.callable p ≡ true → SomeWanted plan given

-- ## Idle rings

module _ (plan : Plan) (s : State) (given : Given) (idle : (r : Ring) → serving plan given r ≡ None) where
  may_start_alone : (r : Ring) (c : ℕ) → given.reverted c ≡ true → may_start plan given r (Some c) ≡ true
  may_start_alone r c h = rw (idle r, h, idle (other r)) refl

  may_start_now : ((r : Ring) (c : ℕ) → s.commitment r ≡ Some c → given.reverted c ≡ true) → (r : Ring) → may_start plan given r (s.commitment r) ≡ true
  may_start_now back r = go (s.commitment r) refl
    where
      go : (o : Option ℕ) → s.commitment r ≡ o → may_start plan given r o ≡ true
      go None e = rw (idle r) refl
      go (Some c) e = may_start_alone r c (back r c e)

  pub completes_now : ((r : Ring) (c : ℕ) → s.commitment r ≡ Some c → given.reverted c ≡ true) → is_some s.crossing ≡ true → completes plan s given ≡ true
  unfolding completes
  completes_now back h =
      all_three (is_some s.crossing) (may_start plan given Ring1 (s.commitment Ring1)) (may_start plan given Ring2 (s.commitment Ring2)) h
      (may_start_now back Ring1) (may_start_now back Ring2)

  -- a commitment starts, in a crossing or not
  pub starts_committed : (r : Ring) (c : ℕ) → ((x : Ring) (d : ℕ) → s.commitment x ≡ Some d → given.reverted d ≡ true) → s.commitment r ≡ Some c →
      starting plan s given r ≡ Some c
  unfolding starting
  starts_committed r c back e =
      rw e (passes (is_some s.crossing) (completes plan s given) (may_start plan given r (Some c)) c (λ h. completes_now back h)
      (λ h. may_start_alone r c (back r c e)))

pub started_by : (plan : Plan) (s : State) (given : Given) (r : Ring) (p : ℕ) → starting plan s given r ≡ Some p → is_started (moves plan s given) p ≡ true
unfolding moves
started_by plan s given Ring1 p e = rw (e, eq-eqb p p refl) refl
started_by plan s given Ring2 p e = or_right (is p (starting plan s given Ring1)) _ (rw e (eq-eqb p p refl))

-- what a crossing that begins commits the rings to is of the target
pub enters_in_target : (plan : Plan) (s : State) (given : Given) (target : ℕ → Bool) (r : Ring) (c : ℕ) → given.target ≡ Some target →
    begins plan s given ≡ true → new_commitment plan s given r ≡ Some c → is_targeted plan target c ≡ true
unfolding new_commitment committed entry
enters_in_target plan s given target r c some b h =
    (and_parts (in_ring plan r c) (is_targeted plan target c) (first-passes (λ p. in_ring plan r p && is_targeted plan target p) (phases plan) c entered)).1
  where
    entered : entry_for plan s given r (Some target) ≡ Some c
    entered = sym (ap (λ (t : Option (ℕ → Bool)). entry_for plan s given r t) some) ∙ (rw (begins_alone plan s given r b, b) at h)

-- ## Idle rings without a commitment

-- a phase starts, or a crossing begins and commits a ring
pub data Outcome (plan : Plan) (s : State) (given : Given) : Type 0 where
  starts : (r : Ring) (p : ℕ) → starting plan s given r ≡ Some p → Outcome plan s given
  enters : (r : Ring) (c : ℕ) → begins plan s given ≡ true → new_commitment plan s given r ≡ Some c → Outcome plan s given

module _ (plan : Plan) (s : State) (given : Given) (idle : (r : Ring) → serving plan given r ≡ None) (out : s.crossing ≡ None) (free : (r : Ring) → s.commitment r ≡ None) (told : IsServing plan given) (rules : first_broken plan ≡ None) (pairs : IsPairwiseConcurrent plan given.target) where
  free_now : (r : Ring) → (is_none s.crossing && is_none (s.commitment r) && is_idle_or_green given (serving plan given r)) ≡ true
  free_now r = rw (out, free r, idle r) refl

  want_is : (r : Ring) → want_of plan s given r ≡ Some (want_found plan s given r (picked_before plan s given r) given.target)
  unfolding want_of want
  want_is r = if_true _ _ (free_now r)

  starts_wanted : (r : Ring) (p : ℕ) → want_of plan s given r ≡ Some (Go p) → starting plan s given r ≡ Some p
  unfolding starting pick
  starts_wanted r p w = rw (free r, idle r, w, back (want_chosen plan s given r p w)) refl
    where
      back : Chosen plan given r p → given.reverted p ≡ true
      back (is_called h) = told.reverted p (told.listed p (told.called_on p h))
      back (is_wanted target e h k) = told.reverted p (told.listed p (and_parts (is_enabled plan p) (target p) h).0)

  picks_none : (r : Ring) (w : Want) → want_of plan s given r ≡ Some w → wants_no_phase (Some w) ≡ true → pick plan s given r ≡ None
  unfolding pick
  picks_none r (Go p) e h = absurd (false≢true h)
  picks_none r Cross e h = rw e refl
  picks_none r Rest e h = rw e refl
  picks_none r Stop e h = rw e refl

  -- ## No ring stays where a phase of it is wanted

  fits_alone : (r : Ring) (p : ℕ) → fits plan s given r None p ≡ true
  unfolding fits
  fits_alone r p = rw (idle (other r), free (other r)) refl

  calls_move : (r : Ring) (p : ℕ) → given.callable p ≡ true → in_ring plan r p ≡ true → is_stay (want_by_calls plan s given r None) ≡ true → ⊥
  calls_move r p called own h =
      elim (cases_Bool (is_on_side plan s.side p)) [
        | inl on ↦ elim (later_or_not (s.last r) p (given.sequence r) (told.sequenced r p (told.called_on p called) own)) [
          | inl k ↦ none_first candidate (later (s.last r) (given.sequence r)) p k (fits_it on) outer.0
          | inr k ↦ none_first candidate (not_later (s.last r) (given.sequence r)) p k (fits_it on) last.0
        ]
        | inr off ↦ false≢true (sym inner.0
            ∙ found_some (λ q. given.callable q && not (is_on_side plan s.side q)) (phases plan) p (told.listed p (told.called_on p called))
            (rw (called, not_from_false (is_on_side plan s.side p) off) refl))
      ]
    where
      candidate : ℕ → Bool
      candidate = is_candidate plan s given r None

      again : Want
      again = go_or (first candidate (not_later (s.last r) (given.sequence r))) Rest

      outer : (first candidate (later (s.last r) (given.sequence r)) ≡ None) × (is_stay (if is_called_elsewhere plan s given then Cross else again) ≡ true)
      outer = stay_of_go (first candidate (later (s.last r) (given.sequence r))) (if is_called_elsewhere plan s given then Cross else again) h

      inner : (is_called_elsewhere plan s given ≡ false) × (is_stay again ≡ true)
      inner = stay_of_cross (is_called_elsewhere plan s given) again outer.1

      last : (first candidate (not_later (s.last r) (given.sequence r)) ≡ None) × (is_stay Rest ≡ true)
      last = stay_of_go (first candidate (not_later (s.last r) (given.sequence r))) Rest inner.1

      fits_it : is_on_side plan s.side p ≡ true → candidate p ≡ true
      fits_it on = rw (own, on, called, fits_alone r p) refl

  target_moves : (r : Ring) (target : ℕ → Bool) (p : ℕ) → IsListed plan p → is_targeted plan target p ≡ true → in_ring plan r p ≡ true →
      is_stay (want_by_target plan s given r None target) ≡ true → ⊥
  target_moves r target p listed wanted own h =
      elim (cases_Bool (is_on_side plan s.side p)) [
        | inl on ↦ none_first candidate (phases plan) p listed (rw (own, on, wanted, fits_alone r p) refl) outer.0
        | inr off ↦ false≢true (sym inner.0
            ∙ found_some (λ q. is_targeted plan target q && not (is_on_side plan s.side q)) (phases plan) p listed
            (rw (wanted, not_from_false (is_on_side plan s.side p) off) refl))
      ]
    where
      candidate : ℕ → Bool
      candidate = λ q. in_ring plan r q && is_on_side plan s.side q && is_targeted plan target q && fits plan s given r None q

      rest : Want
      rest = if is_targeted_elsewhere plan s target then Cross else Stop

      outer : (targeted_here plan s given r None target ≡ None) × (is_stay rest ≡ true)
      outer = stay_of_go (targeted_here plan s given r None target) rest (rw (idle r) at h)

      inner : (is_targeted_elsewhere plan s target ≡ false) × (is_stay Stop ≡ true)
      inner = stay_of_cross (is_targeted_elsewhere plan s target) Stop outer.1

  -- the want of a ring to which no phase was picked before
  stays_then : (r : Ring) (w : Want) → want_of plan s given r ≡ Some w → is_stay w ≡ true → picked_before plan s given r ≡ None → (t : Option (ℕ → Bool)) →
      given.target ≡ t → is_stay (want_found plan s given r None t) ≡ true
  stays_then r w e h none t same =
      let found : Some w ≡ Some (want_found plan s given r (picked_before plan s given r) given.target) = sym e ∙ want_is r in
      let it : w ≡ want_found plan s given r (picked_before plan s given r) given.target = cc in
      subst (λ (x : Option (ℕ → Bool)). is_stay (want_found plan s given r None x) ≡ true) same
      (subst (λ (o : Option ℕ). is_stay (want_found plan s given r o given.target) ≡ true) none (subst (λ (x : Want). is_stay x ≡ true) it h))

  moves_one : SomeWanted plan given → (w v : Want) → want_of plan s given Ring1 ≡ Some w → want_of plan s given Ring2 ≡ Some v → is_stay w ≡ true → is_stay v ≡ true → ⊥
  moves_one wanted w v e f h k = go wanted
    where
      seen : (r : Ring) → picked_before plan s given r ≡ None
      seen Ring1 = refl
      seen Ring2 = seen_is plan s given ∙ picks_none Ring1 w e (stays_no_phase w h)

      stays : (r : Ring) (t : Option (ℕ → Bool)) → given.target ≡ t → is_stay (want_found plan s given r None t) ≡ true
      stays Ring1 t same = stays_then Ring1 w e h (seen Ring1) t same
      stays Ring2 t same = stays_then Ring2 v f k (seen Ring2) t same

      go : SomeWanted plan given → ⊥
      go (by_calls p none called) =
          let own = told.ringed p (told.called_on p called) in calls_move own.0 p called own.1 (stays own.0 None none)
      go (by_target target p some listed it) =
          let own = told.ringed p (and_parts (is_enabled plan p) (target p) it).0 in target_moves own.0 target p listed it own.1 (stays own.0 (Some target) some)

  -- ## A crossing that begins commits a ring

  record Enters : Type 0 where
    pub ring : Ring
    pub phase : ℕ
    pub is_entry : entry plan s given ring ≡ Some phase

  enters_by_target : (target : ℕ → Bool) (p : ℕ) → given.target ≡ Some target → IsListed plan p → is_targeted plan target p ≡ true → Enters
  unfolding entry
  enters_by_target target p some listed wanted = go (first test (phases plan)) refl
    where
      own : (r : Ring) × (in_ring plan r p ≡ true)
      own = told.ringed p (and_parts (is_enabled plan p) (target p) wanted).0

      test : ℕ → Bool
      test = λ q. in_ring plan own.0 q && is_targeted plan target q

      go : (o : Option ℕ) → first test (phases plan) ≡ o → Enters
      go None e = absurd (none_first test (phases plan) p listed (rw (own.1, wanted) refl) e)
      go (Some c) e = record { ring = own.0; phase = c; is_entry = ap (λ (t : Option (ℕ → Bool)). entry_for plan s given own.0 t) some ∙ e }

  called_in : (d : ℕ) (r : Ring) (p : ℕ) → given.callable p ≡ true → is_on_side plan d p ≡ true → in_ring plan r p ≡ true → is_called_in plan given d r p ≡ true
  called_in d r p called on own = rw (own, on, called) refl

  enters_first : (d c : ℕ) → given.target ≡ None → target_side plan s given ≡ d → called_in_ring_1 plan given d ≡ Some c → Enters
  unfolding entry
  enters_first d c none side e = record {
    ring = Ring1;
    phase = c;
    is_entry = ap (λ (t : Option (ℕ → Bool)). entry_for plan s given Ring1 t) none ∙ ap (λ (x : ℕ). entry_by_calls plan given x Ring1) side ∙ rw e refl;
  }

  enters_second : (d c : ℕ) → given.target ≡ None → target_side plan s given ≡ d → called_in_ring_2 plan given d ≡ Some c → Enters
  unfolding entry
  enters_second d c none side e = record {
    ring = Ring2;
    phase = c;
    is_entry = ap (λ (t : Option (ℕ → Bool)). entry_for plan s given Ring2 t) none ∙ ap (λ (x : ℕ). entry_by_calls plan given x Ring2) side ∙ rw e refl;
  }

  enters_on : (d : ℕ) (r : Ring) (p : ℕ) → given.target ≡ None → target_side plan s given ≡ d → given.callable p ≡ true → is_on_side plan d p ≡ true →
      in_ring plan r p ≡ true → Enters
  enters_on d r p none side called on own = go (called_in_ring_1 plan given d) refl r own
    where
      second : called_in_ring_1 plan given d ≡ None → in_ring plan Ring2 p ≡ true → (o : Option ℕ) → called_in_ring_2 plan given d ≡ o → Enters
      second e here None k =
          absurd (none_first (λ q. is_called_in plan given d Ring2 q && concurrent_with plan q (called_in_ring_1 plan given d)) (given.sequence Ring2) p
          (told.sequenced Ring2 p (told.called_on p called) here) (rw (called_in d Ring2 p called on here, e) refl) k)
      second e here (Some c) k = enters_second d c none side k

      go : (o : Option ℕ) → called_in_ring_1 plan given d ≡ o → (x : Ring) → in_ring plan x p ≡ true → Enters
      go (Some c) e x here = enters_first d c none side e
      go None e Ring1 here =
          absurd (none_first (is_called_in plan given d Ring1) (given.sequence Ring1) p (told.sequenced Ring1 p (told.called_on p called) here)
          (called_in d Ring1 p called on here) e)
      go None e Ring2 here = second e here (called_in_ring_2 plan given d) refl

  enters_by_calls : given.target ≡ None → begins plan s given ≡ true → Enters
  unfolding target_side
  enters_by_calls none b = go (first (is_called_on plan given) (sides_after plan s.side)) refl
    where
      sought : (o : Option ℕ) → first (is_called_on plan given) (sides_after plan s.side) ≡ o → side_sought plan s given given.target ≡ or_number o s.side
      sought o e = ap (λ (t : Option (ℕ → Bool)). side_sought plan s given t) none ∙ ap (λ (x : Option ℕ). or_number x s.side) e

      go : (o : Option ℕ) → first (is_called_on plan given) (sides_after plan s.side) ≡ o → Enters
      go None e = absurd (goes_to_other plan s given rules told.called_on pairs b (sought None e))
      go (Some d) e =
          let q : Found (λ p. given.callable p && is_on_side plan d p) (phases plan) =
          some_found (λ p. given.callable p && is_on_side plan d p) (phases plan) (first-passes (is_called_on plan given) (sides_after plan s.side) d e) in
          let both = and_parts (given.callable q.one) (is_on_side plan d q.one) q.passes in
          let own = told.ringed q.one (told.called_on q.one both.0) in
          enters_on d own.0 q.one none (sought (Some d) e) both.0 both.1 own.1

  enters_some : SomeWanted plan given → begins plan s given ≡ true → Enters
  enters_some (by_target target p some listed wanted) b = enters_by_target target p some listed wanted
  enters_some (by_calls p none called) b = enters_by_calls none b

  commits_then : SomeWanted plan given → begins plan s given ≡ true → Outcome plan s given
  unfolding new_commitment committed
  commits_then wanted b =
      let it : Enters = enters_some wanted b in
      enters it.ring it.phase b (rw (begins_alone plan s given it.ring b, b) it.is_entry)

  -- ## What becomes of them

  begins_now : (w v : Want) → want_of plan s given Ring1 ≡ Some w → want_of plan s given Ring2 ≡ Some v → wants_no_phase (Some w) ≡ true →
      wants_no_phase (Some v) ≡ true → (wants_cross (Some w) || wants_cross (Some v)) ≡ true → begins plan s given ≡ true
  unfolding begins
  begins_now w v e f h k c =
      all_three (ring_joins plan s given Ring1) (ring_joins plan s given Ring2) (wants_cross (want_of plan s given Ring1) || wants_cross (want_of plan s given Ring2))
      (rw (idle Ring1, e) h) (rw (idle Ring2, f) k) (rw (e, f) c)

  pub outcome : SomeWanted plan given → Outcome plan s given
  outcome wanted = first_of (want_found plan s given Ring1 (picked_before plan s given Ring1) given.target) (want_is Ring1)
    where
      both : (w v : Want) → want_of plan s given Ring1 ≡ Some w → want_of plan s given Ring2 ≡ Some v → wants_no_phase (Some w) ≡ true →
          wants_no_phase (Some v) ≡ true → Outcome plan s given
      both (Go p) v e f h k = absurd (false≢true h)
      both Cross v e f h k = commits_then wanted (begins_now Cross v e f h k refl)
      both Rest (Go p) e f h k = absurd (false≢true k)
      both Rest Cross e f h k = commits_then wanted (begins_now Rest Cross e f h k refl)
      both Rest Rest e f h k = absurd (moves_one wanted Rest Rest e f refl refl)
      both Rest Stop e f h k = absurd (moves_one wanted Rest Stop e f refl refl)
      both Stop (Go p) e f h k = absurd (false≢true k)
      both Stop Cross e f h k = commits_then wanted (begins_now Stop Cross e f h k refl)
      both Stop Rest e f h k = absurd (moves_one wanted Stop Rest e f refl refl)
      both Stop Stop e f h k = absurd (moves_one wanted Stop Stop e f refl refl)

      second_of : (w v : Want) → want_of plan s given Ring1 ≡ Some w → wants_no_phase (Some w) ≡ true → want_of plan s given Ring2 ≡ Some v → Outcome plan s given
      second_of w (Go p) e h f = starts Ring2 p (starts_wanted Ring2 p f)
      second_of w Cross e h f = both w Cross e f h refl
      second_of w Rest e h f = both w Rest e f h refl
      second_of w Stop e h f = both w Stop e f h refl

      second : (w : Want) → want_of plan s given Ring1 ≡ Some w → wants_no_phase (Some w) ≡ true → Outcome plan s given
      second w e h = second_of w (want_found plan s given Ring2 (picked_before plan s given Ring2) given.target) e h (want_is Ring2)

      first_of : (w : Want) → want_of plan s given Ring1 ≡ Some w → Outcome plan s given
      first_of (Go p) e = starts Ring1 p (starts_wanted Ring1 p e)
      first_of Cross e = second Cross e refl
      first_of Rest e = second Rest e refl
      first_of Stop e = second Stop e refl
