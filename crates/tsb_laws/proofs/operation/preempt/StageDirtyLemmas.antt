-- Under a preempt what it does not want ends, and commitments of before start: in each tick less is left, and then all
-- greens are wanted. For the laws that preempts reach their stages and dwell.
use Rattle.std.proofs.Common.{◌≡◌, ℕ, ◌+◌, ◌-◌, ◌≤◌, Bool, true, false, max, Option, Some, None, refl, sym, ap, ◌∙◌, inl, inr, ◌⊎◌, arith}
use Rattle.std.proofs.lemmas.Bool.{cases_Bool, and_parts, true≢false, false_from_ne_true}
use Rattle.tsb_step.specs.tsb_types.declared.interval.Interval.{Interval}
use Rattle.tsb_step.specs.tsb_types.declared.interval.Interval.TheVariants.{Green}
use Rattle.tsb_step.specs.tsb_types.declared.row.Row.{Row}
use Rattle.tsb_step.specs.tsb_types.Intervals.{is_green, in_service}
use Rattle.tsb_step.specs.tsb_plan.Plan.{is_enabled}
use Rattle.tsb_step.specs.tsb_ring.declared.want.Want.TheVariants.{Cross}
use Rattle.tsb_step.specs.tsb_ring.Rings.{Ring, in_ring, serving}
use Rattle.tsb_step.specs.tsb_ring.Wants.{is_targeted, is_targeted_elsewhere, want_of}
use Rattle.tsb_step.specs.tsb_ring.Crossings.{begins}
use Rattle.tsb_step.specs.tsb_ring.Next.{completes, starting, next as rings_next}
use Rattle.tsb_step.specs.tsb_ring.Moves.{is_ended, is_started}
use Rattle.tsb_step.specs.tsb_ring.Laws.{IsSymmetric, IsGiven, IsListed}
use Rattle.tsb_step.proofs.tsb_ring.SoundLemmas.{new_commits}
use Rattle.tsb_step.proofs.tsb_ring.StartLemmas.{after_in}
use Rattle.tsb_step.proofs.tsb_ring.WaitLemmas.{is_serving}
use Rattle.tsb_step.specs.State.{State, interval}
use Rattle.tsb_step.specs.Tick.{rings_given, moves, over, reverted, ready, yellow_done, after_moves}
use Rattle.tsb_step.specs.TimeLaws.{IsSided}
use Rattle.tsb_laws.specs.CrossingGreens.{IsCalm}
use Rattle.tsb_step.proofs.GivenLemmas.{symmetric, given}
use Rattle.tsb_step.proofs.IntervalLemmas.{intervals_after}
use Rattle.tsb_step.proofs.TellLemmas.{is_in_green}
use Rattle.tsb_step.proofs.tsb_phase.ReadLemmas.{is-red}
use Rattle.tsb_laws.proofs.safety.CrossingRingLemmas.{begins_ending, starts_all, none_is_started, commitment_stays, WaitsFor, clearance_of, revert_of as reverting, waits_for_one}
use Rattle.tsb_laws.proofs.safety.DueLemmas.{clipped_at}
use Rattle.tsb_laws.proofs.safety.UnheldLemmas.{told_over}
use Rattle.tsb_laws.proofs.safety.RingLemmas.{stays_outside, starts_not}
use Rattle.tsb_laws.proofs.operation.step.AcrossLemmas.{GoesAcross, promised_red}
use Rattle.tsb_laws.proofs.operation.step.PhaseTimeLemmas.{not_yet_over, not_yet_reverted, reverts_down}
use Rattle.tsb_laws.proofs.operation.preempt.PreemptGreenLemmas.{not_yet_ready}
use Rattle.tsb_laws.proofs.operation.preempt.PressLemmas.{Bars, committed_to, green_of as barred_by, serving_is, leaves_or_crosses, not_wanted_here, barred}
use Rattle.tsb_laws.proofs.operation.preempt.StageFactLemmas.{Limits, Within, clear_of, revert_of, green_of, green_most, clear_most, revert_most, revert_dark, Stays, green_after, told_list, pairs_list, ends_it, enters, binds, dark_no_end}
use Rattle.tsb_laws.proofs.operation.preempt.StageRingLemmas.{outside_waits}
use Rattle.tsb_laws.proofs.operation.preempt.StageTickLemmas.{less, IsClean, StartsSoon, IsDirty, wanted_reverts, dark_clears, begun_green, unwanted_down}
use Rattle.tsb_laws.proofs.operation.step.TickLemmas.{dark_is}

some_of : (i k : ℕ) → 1 ≤ i → i ≤ k → 1 ≤ k
some_of i k h o = omega (arith, h, o)

-- ## As a stage begins, or at any moment of it

pub dirty_first : (s : State) (list : ℕ → Bool) (t : Limits) → IsCalm s.plan (interval s) s.rings → IsSided s.plan (interval s) s.rings →
    GoesAcross s.plan (interval s) s.rings → IsDirty t list s.plan s.phases s.rings t.clears (max t.walks (t.clears + t.green + 1))
dirty_first s list t calm sided across = record {
  greens = λ p e out. most (green_of t s.phases p) t.walks t.green t.clears (green_most t s.phases p);
  soon = λ r c e out. record {
    own = λ p serves own. clear_most t s.phases p;
    revert = revert_dark t s.phases c (promised_red s r c calm sided across e);
    all = λ d way p. clear_most t s.phases p;
    reverts = λ d way q f k. revert_dark t s.phases f (promised_red s q f calm sided across k);
  };
  late = λ r c e out. last t.walks t.clears t.green;
  reverts = λ p h. twice (revert_of t s.phases p) t.walks t.green t.clears (revert_most t s.phases p);
}
  where
    most : (i w g c : ℕ) → i ≤ max w g → i ≤ max w (c + g + 1)
    most i w g c h = omega (arith, h)

    last : (w c g : ℕ) → c + g + 1 ≤ max w (c + g + 1)
    last w c g = omega arith

    twice : (i w g c : ℕ) → i ≤ c + c → i ≤ max w (c + g + 1) + 1 + c
    twice i w g c h = omega (arith, h)

module _ (s : State) (row : Row) (list : ℕ → Bool) (n : ℕ) (x : Stays s row list n) (t : Limits) (w : Within t s.plan n) where
  even : IsSymmetric s.plan
  even = symmetric s.plan x.good.plan.rules

  fair : IsGiven s.plan (rings_given s row)
  fair = given s row x.good

  -- a commitment that does not start has a tick left
  left_over : (k p : ℕ) → in_service (interval s p) ≡ true → is_green (interval s p) ≡ false → over s p ≡ false → clear_of t s.phases p ≤ k → 1 ≤ k
  left_over k p serves dark h most =
      some_of (clear_of t s.phases p) k (not_yet_over s p (t.yellow p) (t.red p) (w.yellow p) (w.red p) (x.timed p) serves dark h) most

  left_red : (k c : ℕ) (r : Ring) → s.rings.commitment r ≡ Some c → reverted s c ≡ false → revert_of t s.phases c ≤ k → 1 ≤ k
  left_red k c r e h most =
      some_of (revert_of t s.phases c) k
      (not_yet_reverted s c (t.yellow c) (t.revert c) (w.revert c) (is-red (interval s c) (promised_red s r c x.calm x.sided x.across e)) h) most

  module _ (k : ℕ) (r : Ring) (c : ℕ) (was : s.rings.commitment r ≡ Some c) (soon : StartsSoon t s.plan s.phases s.rings k r c) (none : starting s.plan s.rings (rings_given s row) r ≡ None) where
    -- a phase of the ring that is in service after the tick was so before, and clears
    own_down : (p : ℕ) → in_service (interval (after_moves s row) p) ≡ true → in_ring s.plan r p ≡ true → clear_of t (after_moves s row).phases p ≤ k - 1
    unfolding moves rings_given
    own_down p serves own =
        elim (after_in s.plan s.rings (rings_given s row) (yellow_done s) even x.good.rings fair r p own (sym (ap (λ (f : ℕ → Interval). in_service (f p)) (intervals_after s row)) ∙ serves)) [
          | inl h ↦ (let bad : None ≡ Some p = sym none ∙ h in absurd cc)
          | inr h ↦ dark_clears s row list n x t w k p (x.calm.bound r c p was own)
              (starts_not s.plan s.rings (rings_given s row) (yellow_done s) even x.good.rings fair r p own none) (soon.own p h.was own)
        ]

    bound_down : (q : Ring) (e : ℕ) → s.rings.commitment q ≡ Some e → is_started (moves s row) e ≡ false → revert_of t s.phases e ≤ k →
        revert_of t (after_moves s row).phases e ≤ k - 1
    bound_down q e h no_start most =
        less (revert_of t (after_moves s row).phases e) (revert_of t s.phases e) k
        (reverts_down s row e (t.yellow e) (t.revert e) (w.yellow e) (x.timed e)
        (dark_no_end s row list n x e (dark_is (interval s e) (promised_red s q e x.calm x.sided x.across h))) no_start) most

    self_down : revert_of t (after_moves s row).phases c ≤ k - 1
    unfolding moves rings_given
    self_down =
        bound_down r c was
        (starts_not s.plan s.rings (rings_given s row) (yellow_done s) even x.good.rings fair r c (x.good.rings.owned r c was).0 none) soon.revert

    -- outside a crossing
    left_outside : s.rings.crossing ≡ None → 1 ≤ k
    unfolding rings_given
    left_outside out = go (outside_waits s.plan s.rings (rings_given s row) r c x.good.rings out was none)
      where
        go : ((p : ℕ) × (serving s.plan (rings_given s row) r ≡ Some p) × ((rings_given s row).over p ≡ false)) ⊎ ((rings_given s row).reverted c ≡ false) → 1 ≤ k
        go (inr h) = left_red k c r was (sym (clipped_at (reverted s) s.plan c x.few (x.good.rings.owned r c was).1) ∙ h) soon.revert
        go (inl h) =
            let at_it = serving_is s.plan (rings_given s row) r h.0 h.1 in
            left_over k h.0 at_it.1 (x.calm.bound r c h.0 was at_it.0) (sym (told_over s row h.0 w.untrailed x.few (x.good.rings.listed h.0 at_it.1)) ∙ h.2)
            (soon.own h.0 at_it.1 at_it.0)

    stays_out : s.rings.crossing ≡ None → (d : ℕ) → (after_moves s row).rings.crossing ≡ Some d → ⊥
    unfolding rings_next
    stays_out out d h = let bad : None ≡ Some d = sym (stays_outside s.plan s.rings (rings_given s row) r c was out) ∙ h in absurd cc

    outside_then : s.rings.crossing ≡ None → StartsSoon t s.plan (after_moves s row).phases (after_moves s row).rings (k - 1) r c
    outside_then out = record {
      own = own_down;
      revert = self_down;
      all = λ d way p. absurd (stays_out out d way);
      reverts = λ d way q e h. absurd (stays_out out d way);
    }

    -- in a crossing
    not_done : (d : ℕ) → s.rings.crossing ≡ Some d → completes s.plan s.rings (rings_given s row) ≡ false
    unfolding moves rings_given
    not_done d way =
        false_from_ne_true _ (λ h. (let now : starting s.plan s.rings (rings_given s row) r ≡ Some c =
        starts_all s.plan s.rings (rings_given s row) (yellow_done s) even x.good.rings fair d way r c h was in
        let bad : None ≡ Some c = sym none ∙ now in absurd cc))

    left_across : (d : ℕ) → s.rings.crossing ≡ Some d → 1 ≤ k
    unfolding moves rings_given
    left_across d way =
        go (waits_for_one s.plan s.rings (rings_given s row) (yellow_done s) even x.good.rings fair d way (not_done d way))
      where
        go : WaitsFor s.plan s.rings (rings_given s row) (yellow_done s) even x.good.rings fair d way → 1 ≤ k
        go (clearance_of p h e) =
            left_over k p h (x.calm.crosses d way p) (sym (told_over s row p w.untrailed x.few (x.good.rings.listed p h)) ∙ e) (soon.all d way p)
        go (reverting q f h e) =
            left_red k f q h (sym (clipped_at (reverted s) s.plan f x.few (x.good.rings.owned q f h).1) ∙ e) (soon.reverts d way q f h)

    no_start_across : (d : ℕ) → s.rings.crossing ≡ Some d → (p : ℕ) → is_started (moves s row) p ≡ false
    unfolding moves rings_given
    no_start_across d way p =
        none_is_started s.plan s.rings (rings_given s row) (yellow_done s) even x.good.rings fair d way p (not_done d way)

    stood : (d : ℕ) → s.rings.crossing ≡ Some d → (q : Ring) (e : ℕ) → (after_moves s row).rings.commitment q ≡ Some e → s.rings.commitment q ≡ Some e
    unfolding moves rings_given rings_next
    stood d way q e h =
        sym (commitment_stays s.plan s.rings (rings_given s row) (yellow_done s) even x.good.rings fair d way q (not_done d way)) ∙ h

    across_then : (d : ℕ) → s.rings.crossing ≡ Some d → StartsSoon t s.plan (after_moves s row).phases (after_moves s row).rings (k - 1) r c
    across_then d way = record {
      own = own_down;
      revert = self_down;
      all = λ e there p. dark_clears s row list n x t w k p (x.calm.crosses d way p) (no_start_across d way p) (soon.all d way p);
      reverts = λ e there q f h. bound_down q f (stood d way q f h) (no_start_across d way f) (soon.reverts d way q f (stood d way q f h));
    }

    soon_then : (1 ≤ k) × StartsSoon t s.plan (after_moves s row).phases (after_moves s row).rings (k - 1) r c
    soon_then = go s.rings.crossing refl
      where
        go : (o : Option ℕ) → s.rings.crossing ≡ o → (1 ≤ k) × StartsSoon t s.plan (after_moves s row).phases (after_moves s row).rings (k - 1) r c
        go None e = (left_outside e, outside_then e)
        go (Some d) e = (left_across d e, across_then d e)

  -- no ring starts what it stays committed to
  starts_none_then : (r : Ring) (c : ℕ) → (after_moves s row).rings.commitment r ≡ Some c → starting s.plan s.rings (rings_given s row) r ≡ None
  unfolding moves rings_given rings_next
  starts_none_then r c h = (new_commits s.plan s.rings (rings_given s row) (yellow_done s) even x.good.rings fair r c h).0

  stood_unwanted : (r : Ring) (c : ℕ) → list c ≡ false → (after_moves s row).rings.commitment r ≡ Some c → s.rings.commitment r ≡ Some c
  stood_unwanted r c out h =
      elim (binds s row list n x r c h) [
        | inl k ↦ absurd (true≢false (sym k ∙ out))
        | inr k ↦ k
      ]

  -- ## In a tick after which there is time left

  pub dirty_tick : (k e : ℕ) → 1 ≤ e → IsDirty t list s.plan s.phases s.rings k e →
      IsDirty t list s.plan (after_moves s row).phases (after_moves s row).rings (k - 1) (e - 1)
  dirty_tick k e some was = record {
    greens = λ p green out. greens p out (green_after s row p (ap is_green green));
    soon = λ r c h out. (soon r c h out).1;
    late = λ r c h out. later k t.green e (soon r c h out).0 (was.late r c (stood_unwanted r c out h) out);
    reverts = λ p h. back (revert_of t (after_moves s row).phases p) e t.clears some (wanted_reverts s row list n x t w (e + 1 + t.clears) p h (was.reverts p h));
  }
    where
      soon : (r : Ring) (c : ℕ) → (after_moves s row).rings.commitment r ≡ Some c → list c ≡ false →
          (1 ≤ k) × StartsSoon t s.plan (after_moves s row).phases (after_moves s row).rings (k - 1) r c
      soon r c h out =
          soon_then k r c (stood_unwanted r c out h) (was.soon r c (stood_unwanted r c out h) out) (starts_none_then r c h)

      later : (i g j : ℕ) → 1 ≤ i → i + g + 1 ≤ j → i - 1 + g + 1 ≤ j - 1
      later i g j h o = omega (arith, h, o)

      back : (i j c : ℕ) → 1 ≤ j → i ≤ j + 1 + c - 1 → i ≤ j - 1 + 1 + c
      back i j c h o = omega (arith, h, o)

      soon_green : (i g j l : ℕ) → i ≤ g - 1 → j + g + 1 ≤ l → i ≤ l - 1
      soon_green i g j l h o = omega (arith, h, o)

      greens : (p : ℕ) → list p ≡ false → (is_started (moves s row) p ≡ true) ⊎ ((interval s p ≡ Green) × (is_ended (moves s row) p ≡ false)) →
          green_of t (after_moves s row).phases p ≤ e - 1
      greens p out (inr both) =
          less (green_of t (after_moves s row).phases p) (green_of t s.phases p) e (unwanted_down s row list n x t w p out both.0 both.1) (was.greens p both.0 out)
      greens p out (inl h) =
          elim (enters s row list n x p h) [
            | inl l ↦ absurd (true≢false (sym l ∙ out))
            | inr c ↦ soon_green (green_of t (after_moves s row).phases p) t.green k e (begun_green s row list n x t w p h) (was.late c.0 p c.1 out)
          ]

  -- ## In the tick in which the last of them end

  module _ (k : ℕ) (was : IsDirty t list s.plan s.phases s.rings k 0) where
    all_wanted : (r : Ring) (c : ℕ) → s.rings.commitment r ≡ Some c → list c ≡ true
    all_wanted r c e =
        elim (cases_Bool (list c)) [
          | inl h ↦ h
          | inr h ↦ absurd (no_more k t.green (was.late r c e h))
        ]
      where
        no_more : (i g : ℕ) → i + g + 1 ≤ 0 → ⊥
        no_more i g h = omega (arith, h)

    is_ready : (p : ℕ) → interval s p ≡ Green → list p ≡ false → ready s row p ≡ true
    is_ready p green out =
        elim (cases_Bool (ready s row p)) [
          | inl h ↦ h
          | inr h ↦ absurd (none (green_of t s.phases p)
              (not_yet_ready s row p n t.green (t.walk p) (t.clearance p) (ends_it s row list n x p (x.good.rings.listed p (ap in_service green)) out)
              w.green (w.walk p) (w.clearance p) (x.timed p) green h)
              (was.greens p green out))
        ]
      where
        none : (i : ℕ) → 1 ≤ i → i ≤ 0 → ⊥
        none i h o = omega (arith, h, o)

    targeted : (p : ℕ) → is_enabled s.plan p ≡ true → list p ≡ true → is_targeted s.plan list p ≡ true
    targeted p on h = rw (on, h) refl

    listed_of : (p : ℕ) → is_enabled s.plan p ≡ true → is_targeted s.plan list p ≡ false → list p ≡ false
    listed_of p on h = false_from_ne_true _ (λ k. true≢false (sym (targeted p on k) ∙ h))

    module _ (p : ℕ) (green : interval s p ≡ Green) (out : list p ≡ false) (no_end : is_ended (moves s row) p ≡ false) where
      serves : in_service (interval s p) ≡ true
      serves = ap in_service green

      r : Ring
      r = (x.good.rings.ringed p serves).0

      own : in_ring s.plan r p ≡ true
      unfolding r
      own = (x.good.rings.ringed p serves).1

      no_crossing : s.rings.crossing ≡ None
      no_crossing = go s.rings.crossing refl
        where
          go : (o : Option ℕ) → s.rings.crossing ≡ o → s.rings.crossing ≡ None
          go None e = e
          go (Some d) e = absurd (true≢false (sym (ap is_green green) ∙ x.calm.crosses d e p))

      uncommitted : s.rings.commitment r ≡ None
      uncommitted = go (s.rings.commitment r) refl
        where
          go : (o : Option ℕ) → s.rings.commitment r ≡ o → s.rings.commitment r ≡ None
          go None e = e
          go (Some c) e = absurd (true≢false (sym (ap is_green green) ∙ x.calm.bound r c p e own))

      at_it : serving s.plan (rings_given s row) r ≡ Some p
      unfolding rings_given
      at_it = is_serving s.plan s.rings (rings_given s row) r p x.good.rings own serves

      unwanted : is_targeted s.plan list p ≡ false
      unwanted = false_from_ne_true _ (λ h. true≢false (sym (and_parts (is_enabled s.plan p) (list p) h).1 ∙ out))

      is_told : (q : ℕ) → IsListed s.plan q → (rings_given s row).ready q ≡ ready s row q
      unfolding rings_given
      is_told q h = clipped_at (ready s row) s.plan q x.few h

      away_unwanted : is_targeted_elsewhere s.plan s.rings list ≡ true → (y : Ring) (q : ℕ) → serving s.plan (rings_given s row) y ≡ Some q →
          is_targeted s.plan list q ≡ false
      unfolding rings_given
      away_unwanted away y q e =
          let at_q = serving_is s.plan (rings_given s row) y q e in
          not_wanted_here s.plan s.rings (rings_given s row) list (told_list s row list n x) x.good.plan.rules (pairs_list s row list n x) q away
          (x.good.rings.listed q at_q.1) (x.sided.serves q at_q.1)

      bars : is_targeted_elsewhere s.plan s.rings list ≡ true → Bars s.rings s.plan (rings_given s row) → ⊥
      unfolding rings_given
      bars away (committed_to y c e) =
          let here : is_targeted s.plan list c ≡ false =
          not_wanted_here s.plan s.rings (rings_given s row) list (told_list s row list n x) x.good.plan.rules (pairs_list s row list n x) c away
          (x.good.rings.owned y c e).1 (x.sided.inside no_crossing y c e) in
          true≢false (sym (targeted c (x.on.promised y c e) (all_wanted y c e)) ∙ here)
      bars away (barred_by y q e lit unready) =
          let at_q = serving_is s.plan (rings_given s row) y q e in
          let other : list q ≡ false = listed_of q (x.on.serves q at_q.1) (away_unwanted away y q e) in
          true≢false (sym (is_told q (x.good.rings.listed q at_q.1) ∙ is_ready q (is_in_green (interval s q) lit) other) ∙ unready)

      crosses : (b : Bool) → begins s.plan s.rings (rings_given s row) ≡ b → want_of s.plan s.rings (rings_given s row) r ≡ Some Cross →
          is_targeted_elsewhere s.plan s.rings list ≡ true → ⊥
      unfolding rings_given moves
      crosses true b want away =
          true≢false (sym (begins_ending s.plan s.rings (rings_given s row) r p x.good.rings own serves (ap is_green green) b) ∙ no_end)
      crosses false b want away =
          bars away (barred s.plan s.rings (rings_given s row) list (told_list s row list n x) x.good.plan.rules (pairs_list s row list n x) r want no_crossing away
          (away_unwanted away) b)

      must_end : ⊥
      unfolding moves rings_given
      must_end =
          elim (leaves_or_crosses s.plan s.rings (rings_given s row) list (told_list s row list n x) x.good.plan.rules (pairs_list s row list n x) r p at_it own
          (ap is_green green) (is_told p (x.good.rings.listed p serves) ∙ is_ready p green out) no_crossing uncommitted unwanted) [
            | inl h ↦ true≢false (sym h ∙ no_end)
            | inr both ↦ crosses (begins s.plan s.rings (rings_given s row)) refl both.0 both.1
          ]

    pub clean_from : IsClean t list (after_moves s row).phases (after_moves s row).rings t.clears
    clean_from = record {
      greens = λ p e. greens p (green_after s row p (ap is_green e));
      commits = λ r c e. commits r c (binds s row list n x r c e);
      clears = λ p. clear_most t (after_moves s row).phases p;
      reverts = λ p h. one_less (revert_of t (after_moves s row).phases p) t.clears (wanted_reverts s row list n x t w (0 + 1 + t.clears) p h (was.reverts p h));
    }
      where
        one_less : (i c : ℕ) → i ≤ 0 + 1 + c - 1 → i ≤ c
        one_less i c h = omega (arith, h)

        greens : (p : ℕ) → (is_started (moves s row) p ≡ true) ⊎ ((interval s p ≡ Green) × (is_ended (moves s row) p ≡ false)) → list p ≡ true
        greens p (inl h) =
            elim (enters s row list n x p h) [
              | inl l ↦ l
              | inr c ↦ all_wanted c.0 p c.1
            ]
        greens p (inr both) =
            elim (cases_Bool (list p)) [
              | inl h ↦ h
              | inr h ↦ absurd (must_end p both.0 h both.1)
            ]

        commits : (r : Ring) (c : ℕ) → (list c ≡ true) ⊎ (s.rings.commitment r ≡ Some c) → list c ≡ true
        commits r c (inl h) = h
        commits r c (inr h) = all_wanted r c h
