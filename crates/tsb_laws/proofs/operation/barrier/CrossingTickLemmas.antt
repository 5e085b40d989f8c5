-- One tick of a crossing that is under way: it has a tick less to go, or it is completed; each ring then serves what it
-- was committed to, or nothing. For the laws that called phases are served, in free operation and in patterns.
use Rattle.std.proofs.Common.{◌≡◌, ℕ, ◌-◌, ◌≤◌, Bool, true, false, Option, Some, None, is_some, refl, sym, ap, ◌∙◌, inl, inr, arith}
use Rattle.std.proofs.lemmas.Bool.{cases_Bool, true≢false, false_from_ne_true}
use Rattle.tsb_step.specs.tsb_types.declared.interval.Interval.{Interval}
use Rattle.tsb_step.specs.tsb_types.declared.interval.Interval.TheVariants.{Green}
use Rattle.tsb_step.specs.tsb_types.declared.row.Row.{Row}
use Rattle.tsb_step.specs.tsb_types.Intervals.{is_green, in_service}
use Rattle.tsb_step.specs.tsb_plan.Plan.{Plan, yellow_change, red_clear, red_revert}
use Rattle.tsb_step.specs.tsb_ring.Rings as rings
use Rattle.tsb_step.specs.tsb_ring.Rings.{Ring, Given, in_ring}
use Rattle.tsb_step.specs.tsb_ring.Next.{completes, starting, new_last, new_commitment, next as rings_next}
use Rattle.tsb_step.specs.tsb_ring.Moves as moving
use Rattle.tsb_step.specs.tsb_ring.Moves.{is_ended, is_started, interval_after}
use Rattle.tsb_step.specs.tsb_ring.Laws.{Serves, IsSymmetric, IsGiven, IsSound}
use Rattle.tsb_step.proofs.tsb_ring.SoundLemmas.{starting_is, Commits, enters, stands, makes, commits, new_commits, none_stays}
use Rattle.tsb_step.proofs.tsb_ring.StartLemmas.{after_in}
use Rattle.tsb_step.proofs.tsb_ring.WantLemmas.{pick_free}
use Rattle.tsb_step.specs.State.{State, interval}
use Rattle.tsb_step.specs.Tick.{rings_given, moves, reverted, yellow_done, after_moves}
use Rattle.tsb_step.specs.Good.{IsGood}
use Rattle.tsb_step.specs.TimeLaws.{IsSided}
use Rattle.tsb_step.proofs.GivenLemmas.{symmetric, given}
use Rattle.tsb_step.proofs.IntervalLemmas.{intervals_after, ended_was_green}
use Rattle.tsb_step.proofs.tsb_phase.ReadLemmas.{is-red}
use Rattle.tsb_laws.specs.CrossingGreens.{IsCalm}
use Rattle.tsb_laws.proofs.safety.CrossingRingLemmas.{begins_no_more, starts_all, none_is_started, is_started_then, goes_on, is_over, side_goes, commitment_stays, WaitsFor, clearance_of, revert_of, waits_for_one}
use Rattle.tsb_laws.proofs.safety.DueLemmas.{clipped_at}
use Rattle.tsb_laws.specs.Stretches.{has_no_trails}
use Rattle.tsb_laws.proofs.safety.UnheldLemmas.{told_over}
use Rattle.tsb_laws.proofs.operation.step.AcrossLemmas.{GoesAcross, promised_red}
use Rattle.tsb_laws.proofs.operation.step.PhaseTimeLemmas.{IsTimed, clears_down, not_yet_over, reverts_down, not_yet_reverted}
use Rattle.tsb_laws.proofs.operation.step.PhaseLeftLemmas.{clear_left, back_left}
use Rattle.tsb_laws.proofs.operation.step.TickLemmas.{dark_is}

-- ## The rings as it is completed

module _ (plan : Plan) (s : rings.State) (given : Given) (yellow_done : ℕ → Bool) (symmetric : IsSymmetric plan) (sound : IsSound plan given.interval s) (ok : IsGiven plan given) (d : ℕ) (way : s.crossing ≡ Some d) (done : completes plan s given ≡ true) where
  none_starts : (r : Ring) → s.commitment r ≡ None → starting plan s given r ≡ None
  none_starts r e = go (starting plan s given r) refl
    where
      go : (o : Option ℕ) → starting plan s given r ≡ o → starting plan s given r ≡ None
      go None f = f
      go (Some p) f =
          let it = (starting_is plan s given yellow_done symmetric sound ok r p f).in_crossing (ap is_some way) in
          let bad : None ≡ Some p = sym e ∙ it.1 in
          absurd cc

  free_then : (r : Ring) → new_commitment plan s given r ≡ None
  free_then r = go (new_commitment plan s given r) refl
    where
      none : (p : ℕ) → starting plan s given r ≡ None → Commits plan s given yellow_done symmetric sound ok r p → ⊥
      none p e (enters b f) = true≢false (sym b ∙ begins_no_more plan s given yellow_done symmetric sound ok d way)
      none p e (stands b f) =
          let bad : None ≡ Some p = sym e ∙ starts_all plan s given yellow_done symmetric sound ok d way r p done f in absurd cc
      none p e (makes b f) = let bad : None ≡ Some d = sym ((pick_free plan s given r p f).no_crossing) ∙ way in absurd cc

      go : (o : Option ℕ) → new_commitment plan s given r ≡ o → new_commitment plan s given r ≡ None
      go None f = f
      go (Some p) f =
          let it = new_commits plan s given yellow_done symmetric sound ok r p f in
          absurd (none p it.0 (commits plan s given yellow_done symmetric sound ok r p it.1))

  last_then : (r : Ring) (c : ℕ) → s.commitment r ≡ Some c → new_last plan s given r ≡ Some c
  unfolding new_last
  last_then r c e = rw (starts_all plan s given yellow_done symmetric sound ok d way r c done e) refl

  no_last : (r : Ring) → s.commitment r ≡ None → new_last plan s given r ≡ None
  unfolding new_last
  no_last r e = rw (none_starts r e, done, e) refl

  none_serves : (r : Ring) (p : ℕ) → s.commitment r ≡ None → in_ring plan r p ≡ true → Serves (interval_after (moving.moves plan s given) yellow_done given.interval) p → ⊥
  none_serves r p e own h =
      elim (after_in plan s given yellow_done symmetric sound ok r p own h) [
        | inl start ↦ (let bad : None ≡ Some p = sym (none_starts r e) ∙ start in absurd cc)
        | inr stays ↦ none_stays plan s given yellow_done symmetric sound ok r p (ap is_some way) done own stays
      ]

-- ## The tick

-- within m ticks all is over, and what the rings are committed to has reverted
pub record IsOverIn (m : ℕ) (s : State) : Type 0 where
  pub clears : (p : ℕ) → clear_left s.plan p (s.phases p) ≤ m
  pub reverts : (r : Ring) (c : ℕ) → s.rings.commitment r ≡ Some c → back_left s.plan c (s.phases c) ≤ m

-- a ring has started what it was committed to, or is idle
pub record HasEntered (s after : State) (r : Ring) : Type 0 where
  pub free : after.rings.commitment r ≡ None
  pub starts : (c : ℕ) → s.rings.commitment r ≡ Some c → (interval after c ≡ Green) × (after.rings.last r ≡ Some c)
  pub idles : s.rings.commitment r ≡ None →
      (after.rings.last r ≡ None) × ((p : ℕ) → in_ring s.plan r p ≡ true → in_service (interval after p) ≡ false)

pub data Crosses (s after : State) (d m : ℕ) : Type 0 where
  crosses_on : 1 ≤ m → after.rings.crossing ≡ Some d → ((r : Ring) → after.rings.commitment r ≡ s.rings.commitment r) → IsOverIn (m - 1) after →
      Crosses s after d m
  has_crossed : after.rings.crossing ≡ None → after.rings.side ≡ d → ((r : Ring) → HasEntered s after r) → Crosses s after d m

module _ (s : State) (row : Row) (good : IsGood s) (few : s.plan.phase_count ≤ 16) (untrailed : has_no_trails s.plan ≡ true) (calm : IsCalm s.plan (interval s) s.rings) (sided : IsSided s.plan (interval s) s.rings) (across : GoesAcross s.plan (interval s) s.rings) (timed : (p : ℕ) → IsTimed (s.phases p)) (d : ℕ) (way : s.rings.crossing ≡ Some d) where
  even : IsSymmetric s.plan
  even = symmetric s.plan good.plan.rules

  told : IsGiven s.plan (rings_given s row)
  told = given s row good

  red : (r : Ring) (c : ℕ) → s.rings.commitment r ≡ Some c → in_service (interval s c) ≡ false
  red r c e = promised_red s r c calm sided across e

  -- ## It goes on

  module _ (m : ℕ) (was : IsOverIn m s) (not_done : completes s.plan s.rings (rings_given s row) ≡ false) where
    no_start : (p : ℕ) → is_started (moves s row) p ≡ false
    unfolding moves rings_given
    no_start p = none_is_started s.plan s.rings (rings_given s row) (yellow_done s) even good.rings told d way p not_done

    no_end : (p : ℕ) → is_green (interval s p) ≡ false → is_ended (moves s row) p ≡ false
    no_end p dark = false_from_ne_true _ (λ h. true≢false (sym (ended_was_green s row p h) ∙ dark))

    stays : (r : Ring) → (after_moves s row).rings.commitment r ≡ s.rings.commitment r
    unfolding moves rings_given rings_next
    stays r = commitment_stays s.plan s.rings (rings_given s row) (yellow_done s) even good.rings told d way r not_done

    way_then : (after_moves s row).rings.crossing ≡ Some d
    unfolding moves rings_given rings_next
    way_then = goes_on s.plan s.rings (rings_given s row) (yellow_done s) even good.rings told d way not_done

    over_then : IsOverIn (m - 1) (after_moves s row)
    over_then = record {
      clears = λ p.
          (let down = clears_down s row p (yellow_change s.plan p) (red_clear s.plan p) (omega arith) (timed p) (calm.crosses d way p) (no_start p) in
          let before = was.clears p in omega (arith, down, before));
      reverts = λ r c e. reverts r c (sym (stays r) ∙ e);
    }
      where
        reverts : (r : Ring) (c : ℕ) → s.rings.commitment r ≡ Some c → back_left s.plan c ((after_moves s row).phases c) ≤ m - 1
        reverts r c e =
            let down = reverts_down s row c (yellow_change s.plan c) (red_revert s.plan c) (omega arith) (timed c) (no_end c (dark_is (interval s c) (red r c e))) (no_start c) in
            let before = was.reverts r c e in
            omega (arith, down, before)

    some_left : 1 ≤ m
    unfolding moves rings_given
    some_left = go (waits_for_one s.plan s.rings (rings_given s row) (yellow_done s) even good.rings told d way not_done)
      where
        go : WaitsFor s.plan s.rings (rings_given s row) (yellow_done s) even good.rings told d way → 1 ≤ m
        go (clearance_of p serves h) =
            let left_p = not_yet_over s p (yellow_change s.plan p) (red_clear s.plan p) (omega arith) (omega arith) (timed p) serves (calm.crosses d way p)
            (sym (told_over s row p untrailed few (good.rings.listed p serves)) ∙ h) in
            let before = was.clears p in
            omega (arith, left_p, before)
        go (revert_of r c e h) =
            let left_c = not_yet_reverted s c (yellow_change s.plan c) (red_revert s.plan c) (omega arith) (is-red (interval s c) (red r c e))
            (sym (clipped_at (reverted s) s.plan c few (good.rings.owned r c e).1) ∙ h) in
            let before = was.reverts r c e in
            omega (arith, left_c, before)

  -- ## It is completed

  module _ (done : completes s.plan s.rings (rings_given s row) ≡ true) where
    outside_then : (after_moves s row).rings.crossing ≡ None
    unfolding moves rings_given rings_next
    outside_then = is_over s.plan s.rings (rings_given s row) (yellow_done s) even good.rings told d way done

    side_then : (after_moves s row).rings.side ≡ d
    unfolding moves rings_given rings_next
    side_then = side_goes s.plan s.rings (rings_given s row) (yellow_done s) even good.rings told d way done

    entered : (r : Ring) → HasEntered s (after_moves s row) r
    unfolding moves rings_given rings_next
    entered r = record {
      free = free_then s.plan s.rings (rings_given s row) (yellow_done s) even good.rings told d way done r;
      starts = λ c e. (green c e, last_then s.plan s.rings (rings_given s row) (yellow_done s) even good.rings told d way done r c e);
      idles = λ e. (no_last s.plan s.rings (rings_given s row) (yellow_done s) even good.rings told d way done r e, λ p own. dark p e own);
    }
      where
        green : (c : ℕ) → s.rings.commitment r ≡ Some c → interval (after_moves s row) c ≡ Green
        green c e =
            let on : is_started (moves s row) c ≡ true = is_started_then s.plan s.rings (rings_given s row) (yellow_done s) even good.rings told d way r c done e in
            rw on refl

        dark : (p : ℕ) → s.rings.commitment r ≡ None → in_ring s.plan r p ≡ true → in_service (interval (after_moves s row) p) ≡ false
        dark p e own =
            elim (cases_Bool (in_service (interval (after_moves s row) p))) [
              | inr h ↦ h
              | inl h ↦ absurd (none_serves s.plan s.rings (rings_given s row) (yellow_done s) even good.rings told d way done r p e own
                  (sym (ap (λ (f : ℕ → Interval). in_service (f p)) (intervals_after s row)) ∙ h))
            ]

  pub crossing_tick : (m : ℕ) → IsOverIn m s → Crosses s (after_moves s row) d m
  crossing_tick m was =
      elim (cases_Bool (completes s.plan s.rings (rings_given s row))) [
        | inl h ↦ has_crossed (outside_then h) (side_then h) (entered h)
        | inr h ↦ crosses_on (some_left m was h) (way_then m was h) (stays m was h) (over_then m was h)
      ]
