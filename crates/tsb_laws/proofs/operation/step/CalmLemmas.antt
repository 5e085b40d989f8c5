-- Outside a crossing a commitment is not in service, a ring that is committed serves no green, and while a crossing is
-- under way no phase is Green: through inputs of every kind. Proves `crossings_have_no_green`; for the laws of called
-- phases and of preempts as well.
use Rattle.std.proofs.Common.{◌≡◌, ℕ, ◌==◌, Bool, true, false, ◌&&◌, ◌||◌, if◌then◌else◌, List, Option, Some, None, refl, sym, ap, ◌∙◌, inl, inr}
use Rattle.std.proofs.lemmas.Bool.{cases_Bool, or_cases, eq-eqb, true≢false, false≢true, false_from_ne_true, or_right}
use Rattle.tsb_step.specs.tsb_types.declared.interval.Interval.{Interval}
use Rattle.tsb_step.specs.tsb_types.declared.row.Row.{Row}
use Rattle.tsb_step.specs.tsb_types.Intervals.{is_green, is_yellow, in_service}
use Rattle.tsb_step.specs.tsb_types.Lists.{is}
use Rattle.tsb_step.proofs.tsb_types.IntervalLemmas.{serves-green}
use Rattle.tsb_step.specs.tsb_plan.declared.object.Object.TheVariants.{PhaseRing}
use Rattle.tsb_step.specs.tsb_plan.Objects.{is_structural}
use Rattle.tsb_step.specs.tsb_plan.Plan.{Plan}
use Rattle.tsb_step.specs.tsb_ring.declared.want.Want.TheVariants.{Go}
use Rattle.tsb_step.specs.tsb_ring.Rings as rings
use Rattle.tsb_step.specs.tsb_ring.Rings.{Ring, Ring1, Ring2, in_ring, own_ring, serving, number}
use Rattle.tsb_step.specs.tsb_ring.Wants.{taken, want_of, pick}
use Rattle.tsb_step.specs.tsb_ring.Crossings.{begins, target_side, committed}
use Rattle.tsb_step.specs.tsb_ring.Next.{completes, starting, leaves, ends, new_commitment, new_crossing, next as rings_after}
use Rattle.tsb_step.specs.tsb_ring.Moves.{if_passes, ring_moves, moves as moves_in, is_started, is_cleared, is_ended, interval_after}
use Rattle.tsb_step.specs.tsb_ring.GivenUp.{given_up}
use Rattle.tsb_step.specs.tsb_ring.Laws.{IsSymmetric, IsGiven, IsSound}
use Rattle.tsb_step.proofs.tsb_ring.ClaimLemmas.{same_ring, ring_of_is}
use Rattle.tsb_step.proofs.tsb_ring.GivenUpLemmas.{crossing_left, outside_left, was_before}
use Rattle.tsb_step.proofs.tsb_ring.MoveLemmas.{is-Some}
use Rattle.tsb_step.proofs.tsb_ring.SoundLemmas.{Starting, starting_is, Commits, enters, stands, makes, commits, new_commits}
use Rattle.tsb_step.proofs.tsb_ring.StartLemmas.{after_in}
use Rattle.tsb_step.proofs.tsb_ring.WaitLemmas.{is_serving}
use Rattle.tsb_step.proofs.tsb_ring.WantLemmas.{pick_want, pick_free, pick_wanted}
use Rattle.tsb_step.specs.tsb_transact.Desk.{with_edits}
use Rattle.tsb_step.specs.tsb_transact.Commit.{changes_structure}
use Rattle.tsb_step.specs.declared.inputs.Input.{Input}
use Rattle.tsb_step.specs.State.{State, interval}
use Rattle.tsb_step.specs.Tick.{rings_given, moves, yellow_done, after_moves, next}
use Rattle.tsb_step.specs.Runs.{replay, AreTaken}
use Rattle.tsb_step.specs.Laws.{IsConsistent}
use Rattle.tsb_step.specs.Good.{IsGood}
use Rattle.tsb_step.proofs.EditLemmas.{kept}
use Rattle.tsb_step.proofs.GivenLemmas.{symmetric, given}
use Rattle.tsb_step.proofs.IntervalLemmas.{intervals_after}
use Rattle.tsb_step.proofs.KeptLemmas.{IsKept, kept_run}
use Rattle.tsb_laws.specs.CrossingGreens.{IsCalm}
use Rattle.tsb_laws.proofs.safety.ChoiceLemmas.{Chosen, is_called, is_wanted, pick_chosen}
use Rattle.tsb_laws.proofs.safety.CrossingRingLemmas.{begins_alone, begins_ending, starts_none, starts_all}
use Rattle.tsb_laws.proofs.safety.EnabledLemmas.{callable_no_green}

module _ (plan : Plan) (s : rings.State) (given : rings.Given) (yellow_done : ℕ → Bool) (symmetric : IsSymmetric plan) (sound : IsSound plan given.interval s) (ok : IsGiven plan given) (called_red : (p : ℕ) → given.callable p ≡ true → is_green (given.interval p) ≡ false) (was : IsCalm plan given.interval s) where
  abbrev later : ℕ → Interval
  later = interval_after (moves_in plan s given) yellow_done given.interval

  -- a phase that is Green after the tick has started, or was Green and has not ended
  pub stays_green : (p : ℕ) → is_green (later p) ≡ true → is_started (moves_in plan s given) p ≡ false →
      (is_green (given.interval p) ≡ true) × (is_ended (moves_in plan s given) p ≡ false)
  unfolding interval_after
  stays_green p h e = go (is_cleared (moves_in plan s given) p) (is_ended (moves_in plan s given) p) (is_yellow (given.interval p) && yellow_done p) refl refl refl
    where
      go : (c d y : Bool) → is_cleared (moves_in plan s given) p ≡ c → is_ended (moves_in plan s given) p ≡ d → (is_yellow (given.interval p) && yellow_done p) ≡ y →
          (is_green (given.interval p) ≡ true) × (is_ended (moves_in plan s given) p ≡ false)
      go true d y k l m = absurd (false≢true (rw (e, k) at h))
      go false true y k l m = absurd (false≢true (rw (e, k, l) at h))
      go false false true k l m = absurd (false≢true (rw (e, k, l, m) at h))
      go false false false k l m = (rw (e, k, l, m) at h, l)

  -- a phase of a ring that starts nothing does not start
  pub not_started : (r : Ring) (p : ℕ) → in_ring plan r p ≡ true → starting plan s given r ≡ None → is_started (moves_in plan s given) p ≡ false
  unfolding moves_in
  not_started r p own none =
      false_from_ne_true _ (λ h. elim (or_cases (is p (starting plan s given Ring1)) (is p (starting plan s given Ring2)) h) [
        | inl k ↦ one Ring1 (is-Some p (starting plan s given Ring1) k)
        | inr k ↦ one Ring2 (is-Some p (starting plan s given Ring2) k)
      ])
    where
      one : (x : Ring) → starting plan s given x ≡ Some p → ⊥
      one x k =
          let it : Starting plan s given x p = starting_is plan s given yellow_done symmetric sound ok x p k in
          let same : r ≡ x = same_ring plan r x p own it.ringed in
          let bad : None ≡ Some p = sym none ∙ (rw same k) in
          cc

  -- the green that a ring leaves for what it picks ends
  picks_end : (r : Ring) (p c : ℕ) → serving plan given r ≡ Some p → in_ring plan r p ≡ true → is_green (given.interval p) ≡ true → pick plan s given r ≡ Some c →
      is_ended (moves_in plan s given) p ≡ true
  unfolding moves_in pick ends
  picks_end r p c serves own green h =
      let want : want_of plan s given r ≡ Some (Go c) = pick_want plan s given r c h in
      let took : taken given (Some p) (Some (Go c)) ≡ Some c = rw (serves, want) at h in
      by r serves (passes (given.ready p) took refl want)
    where
      passes : (b : Bool) → (if b then Some c else None) ≡ Some c → given.ready p ≡ b → want_of plan s given r ≡ Some (Go c) →
          is p (if_passes (λ q. is_green (given.interval q) && (begins plan s given || (given.ready q && leaves (want_of plan s given (own_ring plan q))))) (Some p)) ≡ true
      passes false k e w = absurd cc
      passes true k e w = rw (green, e, ring_of_is plan r p own, w) (rw (or_right (begins plan s given) true refl) (same p))
        where
          same : (n : ℕ) → (n == n) ≡ true
          same n = eq-eqb n n refl

      by : (x : Ring) → serving plan given x ≡ Some p →
          is p (if_passes (λ q. is_green (given.interval q) && (begins plan s given || (given.ready q && leaves (want_of plan s given (own_ring plan q))))) (Some p)) ≡ true →
          is_ended (moves_in plan s given) p ≡ true
      by Ring1 e k = rw (e, k) refl
      by Ring2 e k = or_right (is p (ring_moves plan s given Ring1).ends) _ (rw e k)

  fresh_then : new_crossing plan s given ≡ None → (r : Ring) (c : ℕ) → new_commitment plan s given r ≡ Some c → in_service (later c) ≡ false
  unfolding new_crossing
  fresh_then out r c h =
      elim (cases_Bool (in_service (later c))) [
        | inr k ↦ k
        | inl k ↦ absurd (go (commits plan s given yellow_done symmetric sound ok r c made.1) k)
      ]
    where
      made : (starting plan s given r ≡ None) × (committed plan s given r ≡ Some c)
      made = new_commits plan s given yellow_done symmetric sound ok r c h

      stays : in_ring plan r c ≡ true → in_service (later c) ≡ true → in_service (given.interval c) ≡ true
      stays own k =
          elim (after_in plan s given yellow_done symmetric sound ok r c own k) [
            | inl started ↦ (let bad : None ≡ Some c = sym made.0 ∙ started in absurd cc)
            | inr it ↦ it.was
          ]

      chosen : pick plan s given r ≡ Some c → in_service (given.interval c) ≡ true → is_green (given.interval c) ≡ true → serving plan given r ≡ Some c → Chosen plan given r c → ⊥
      chosen e serves green at_it (is_called k) = true≢false (sym green ∙ called_red c k)
      chosen e serves green at_it (is_wanted target f k l) = true≢false (sym k ∙ (rw at_it at l))

      go : Commits plan s given yellow_done symmetric sound ok r c → in_service (later c) ≡ true → ⊥
      go (enters b e) k = let bad : Some (target_side plan s given) ≡ None = rw b at out in cc
      go (stands b e) k = by s.crossing refl
        where
          by : (o : Option ℕ) → s.crossing ≡ o → ⊥
          by None f = true≢false (sym (stays (sound.owned r c e).0 k) ∙ was.fresh f r c e)
          by (Some d) f =
              elim (cases_Bool (completes plan s given)) [
                | inl done ↦ (let started : starting plan s given r ≡ Some c = starts_all plan s given yellow_done symmetric sound ok d f r c done e in
                    let bad : None ≡ Some c = sym made.0 ∙ started in cc)
                | inr done ↦ (let bad : Some d ≡ None = sym f ∙ (rw (b, done) at out) in cc)
              ]
      go (makes b e) k =
          let own : in_ring plan r c ≡ true = (pick_wanted plan s given r c ok e).ringed in
          let serves : in_service (given.interval c) ≡ true = stays own k in
          let at_it : serving plan given r ≡ Some c = is_serving plan s given r c sound own serves in
          let green : is_green (given.interval c) ≡ true = rw at_it at ((pick_free plan s given r c e).idle_or_green) in
          chosen e serves green at_it (pick_chosen plan s given r c e)

  bound_then : (r : Ring) (c p : ℕ) → new_commitment plan s given r ≡ Some c → in_ring plan r p ≡ true → is_green (later p) ≡ true → ⊥
  bound_then r c p h own green = go (commits plan s given yellow_done symmetric sound ok r c made.1)
    where
      made : (starting plan s given r ≡ None) × (committed plan s given r ≡ Some c)
      made = new_commits plan s given yellow_done symmetric sound ok r c h

      stays : (is_green (given.interval p) ≡ true) × (is_ended (moves_in plan s given) p ≡ false)
      stays = stays_green p green (not_started r p own made.0)

      go : Commits plan s given yellow_done symmetric sound ok r c → ⊥
      go (enters b e) =
          true≢false (sym (begins_ending plan s given r p sound own (serves-green (given.interval p) stays.0) stays.0 b) ∙ stays.1)
      go (stands b e) = true≢false (sym stays.0 ∙ was.bound r c p e own)
      go (makes b e) =
          true≢false (sym (picks_end r p c (is_serving plan s given r p sound own (serves-green (given.interval p) stays.0)) own stays.0 e) ∙ stays.1)

  crosses_then : (d : ℕ) → new_crossing plan s given ≡ Some d → (p : ℕ) → is_green (later p) ≡ true → ⊥
  unfolding new_crossing moves_in
  crosses_then d h p green = go (begins plan s given) (completes plan s given) refl refl
    where
      serves : in_service (later p) ≡ true
      serves = serves-green (later p) green

      ringed : starting plan s given Ring1 ≡ None → starting plan s given Ring2 ≡ None → is_started (moves_in plan s given) p ≡ false
      ringed one two = rw (one, two) refl

      go : (b c : Bool) → begins plan s given ≡ b → completes plan s given ≡ c → ⊥
      go true c k l =
          let still = stays_green p green (ringed (begins_alone plan s given Ring1 k) (begins_alone plan s given Ring2 k)) in
          let own = sound.ringed p (serves-green (given.interval p) still.0) in
          true≢false (sym (begins_ending plan s given own.0 p sound own.1 (serves-green (given.interval p) still.0) still.0 k) ∙ still.1)
      go false true k l = let bad : None ≡ Some d = rw (k, l) at h in cc
      go false false k l =
          let under_way : s.crossing ≡ Some d = rw (k, l) at h in
          let one : starting plan s given Ring1 ≡ None = starts_none plan s given yellow_done symmetric sound ok d under_way Ring1 l in
          let two : starting plan s given Ring2 ≡ None = starts_none plan s given yellow_done symmetric sound ok d under_way Ring2 l in
          true≢false (sym (stays_green p green (ringed one two)).0 ∙ was.crosses d under_way p)

  pub calm_after : IsCalm plan later (rings_after plan s given)
  unfolding rings_after
  calm_after = record {
    crosses = λ d e p. false_from_ne_true (is_green (later p)) (λ green. crosses_then d e p green);
    bound = λ r c p e own. false_from_ne_true (is_green (later p)) (λ green. bound_then r c p e own green);
    fresh = fresh_then;
  }

-- ## Every input, and every run

calm_still : (plan : Plan) (interval : ℕ → Interval) (s : rings.State) → ((p : ℕ) → in_service (interval p) ≡ true → ⊥) →
    ((r : Ring) → s.commitment r ≡ None) → IsCalm plan interval s
calm_still plan interval s idle none = record {
  crosses = λ d e p. false_from_ne_true (is_green (interval p)) (λ green. idle p (serves-green (interval p) green));
  bound = λ r c p e own. (let bad : None ≡ Some c = sym (none r) ∙ e in absurd cc);
  fresh = λ out r c e. (let bad : None ≡ Some c = sym (none r) ∙ e in absurd cc);
}

calm_next : (s : State) (row : Row) → IsGood s → IsCalm s.plan (interval s) s.rings → IsCalm s.plan (interval (next s row)) (after_moves s row).rings
unfolding moves rings_given
calm_next s row good was =
    rw (intervals_after s row)
    (calm_after s.plan s.rings (rings_given s row) (yellow_done s) (symmetric s.plan good.plan.rules) good.rings (given s row good)
    (callable_no_green s row) was)

calm_given : (plan : Plan) (interval : ℕ → Interval) (target : Option (ℕ → Bool)) (s : rings.State) → IsCalm plan interval s →
    IsCalm plan interval (given_up plan target s)
calm_given plan interval target s was = record {
  crosses = λ d e. (let all = crossing_left plan target s d e in was.crosses d (sym (ap (λ (x : rings.State). x.crossing) all) ∙ e));
  bound = λ r c p e own. was.bound r c p (was_before plan target s r c e) own;
  fresh = λ out r c e. was.fresh (outside_left plan target s r c out e) r c (was_before plan target s r c e);
}

calm_committed : (s : State) → changes_structure s.plan s.desk.edits ≡ false → IsCalm s.plan (interval s) s.rings →
    IsCalm (with_edits s.plan s.desk.edits) (interval s) s.rings
calm_committed s unchanged was = record {
  crosses = was.crosses;
  bound = λ r c p e own. was.bound r c p e (sym (same r p) ∙ own);
  fresh = was.fresh;
}
  where
    same : (r : Ring) (p : ℕ) → in_ring (with_edits s.plan s.desk.edits) r p ≡ in_ring s.plan r p
    same r p = ap (λ (v : ℕ). v == number r) (kept is_structural s.plan s.desk.edits unchanged PhaseRing p refl)

calm_kept : IsKept IsCalm
calm_kept = record { still = calm_still; ticks = calm_next; gives = calm_given; commits = calm_committed }

pub calm_run : (plan : Plan) (is : List Input) → IsConsistent plan → AreTaken plan is →
    IsCalm (replay plan is).plan (interval (replay plan is)) (replay plan is).rings
calm_run plan is ok taken = kept_run IsCalm calm_kept plan is ok taken
