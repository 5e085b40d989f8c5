-- Once nothing is left, at most three ticks more: what clears goes Red, or a crossing is completed; a crossing begins;
-- and all phases of the stage are Green. For the laws that preempts reach their stages and dwell.
use Rattle.std.proofs.Common.{◌≡◌, ℕ, zero, suc, ◌+◌, ◌-◌, ◌≤◌, ◌==◌, Bool, true, false, not, ◌||◌, List, [], ◌∷◌, Option, Some, None, refl, sym, ap, ◌∙◌, inl, inr, ◌⊎◌, arith}
use Rattle.std.specs.List.{list_all}
use Rattle.std.proofs.lemmas.Bool.{cases_Bool, and_parts, eq-eqb, or_right, or_left}
use Rattle.tsb_step.specs.tsb_types.declared.interval.Interval.{Interval}
use Rattle.tsb_step.specs.tsb_types.declared.interval.Interval.TheVariants.{Green}
use Rattle.tsb_step.specs.tsb_types.declared.row.Row.{Row}
use Rattle.tsb_step.specs.tsb_types.Intervals.{is_green, in_service}
use Rattle.tsb_step.proofs.tsb_types.IntervalLemmas.{serves-green}
use Rattle.tsb_step.specs.tsb_types.Lists.{among, is}
use Rattle.tsb_step.specs.tsb_plan.Plan.{Plan, phases, is_enabled}
use Rattle.tsb_step.specs.tsb_rules.Consistent.{IsPlaced}
use Rattle.tsb_step.proofs.tsb_rules.ConsistentLemmas.{placed}
use Rattle.tsb_step.specs.tsb_phase.Phase.{Phase}
use Rattle.tsb_step.specs.tsb_preempt.Service.{all_green}
use Rattle.tsb_step.specs.tsb_ring.Rings as rings
use Rattle.tsb_step.specs.tsb_ring.Rings.{Ring, Ring1, Ring2, in_ring}
use Rattle.tsb_step.specs.tsb_ring.Wants.{is_targeted}
use Rattle.tsb_step.specs.tsb_ring.Crossings.{begins, target_side}
use Rattle.tsb_step.specs.tsb_ring.Next.{completes, starting, new_crossing, next as rings_next}
use Rattle.tsb_step.specs.tsb_ring.Moves as moving
use Rattle.tsb_step.specs.tsb_ring.Moves.{is_started}
use Rattle.tsb_step.specs.tsb_ring.Laws.{IsSymmetric, IsGiven, IsListed}
use Rattle.tsb_step.proofs.tsb_ring.SoundLemmas.{after_tick, none_stays}
use Rattle.tsb_step.specs.State.{State, interval}
use Rattle.tsb_step.specs.Tick.{rings_given, moves, over, reverted, yellow_done, after_moves}
use Rattle.tsb_step.proofs.GivenLemmas.{listed_is_phase, symmetric, given}
use Rattle.tsb_step.proofs.IntervalLemmas.{intervals_after}
use Rattle.tsb_step.proofs.TellLemmas.{is_in_green}
use Rattle.tsb_step.proofs.tsb_phase.ReadLemmas.{is-red}
use Rattle.tsb_laws.proofs.safety.AllRedLemmas.{ring_is}
use Rattle.tsb_laws.proofs.safety.CrossingRingLemmas.{is_over, is_started_then}
use Rattle.tsb_laws.proofs.safety.DueLemmas.{clipped_at}
use Rattle.tsb_laws.proofs.safety.UnheldLemmas.{told_over}
use Rattle.tsb_laws.proofs.operation.step.AcrossLemmas.{promised_red}
use Rattle.tsb_laws.proofs.operation.step.PhaseTimeLemmas.{not_yet_over, not_yet_reverted}
use Rattle.tsb_laws.proofs.operation.preempt.StageFactLemmas.{Limits, Within, clear_of, revert_of, Stays, started_green, still_green, told_list, pairs_list, wanted_stays, green_no_start}
use Rattle.tsb_laws.proofs.operation.preempt.StageRingLemmas.{AreDue, completes_it, free_across, free_here, stays_if_green, starts_wanted, commits_wanted}
use Rattle.tsb_laws.proofs.operation.preempt.StageTickLemmas.{IsClean, IsDirty, clean_tick}
use Rattle.tsb_laws.proofs.operation.preempt.StageDirtyLemmas.{dirty_tick, clean_from}

-- ## Words

-- no ring is committed, no crossing is under way, and only greens are in service
pub record IsRested (phases : ℕ → Phase) (s : rings.State) : Type 0 where
  pub outside : s.crossing ≡ None
  pub free : (r : Ring) → s.commitment r ≡ None
  pub greens : (p : ℕ) → in_service (phases p).interval ≡ true → is_green (phases p).interval ≡ true

-- a crossing is under way to what is wanted
pub record IsCrossing (plan : Plan) (list : ℕ → Bool) (s : rings.State) : Type 0 where
  pub way : (d : ℕ) × (s.crossing ≡ Some d)
  pub all : (p : ℕ) → IsListed plan p → list p ≡ true → (r : Ring) × (s.commitment r ≡ Some p)

-- within d ticks all that is wanted is Green
pub data Near (t : Limits) (list : ℕ → Bool) (plan : Plan) (phases : ℕ → Phase) (s : rings.State) (d : ℕ) : Type 0 where
  dirty : (k e : ℕ) → IsDirty t list plan phases s k e → e + t.clears + 4 ≤ d → Near t list plan phases s d
  clean : (m : ℕ) → IsClean t list phases s m → m + 3 ≤ d → Near t list plan phases s d
  rested : IsClean t list phases s 0 → IsRested phases s → 2 ≤ d → Near t list plan phases s d
  crosses : IsClean t list phases s 0 → IsCrossing plan list s → 1 ≤ d → Near t list plan phases s d

-- all that is wanted is Green
abbrev pub AreGreen : (ℕ → Bool) → Plan → (ℕ → Phase) → Type 0
AreGreen list plan phases = (p : ℕ) → IsListed plan p → list p ≡ true → is_green (phases p).interval ≡ true

all_among : (test : ℕ → Bool) (ps : List ℕ) → ((p : ℕ) → among p ps ≡ true → test p ≡ true) → list_all test ps ≡ true
all_among test [] h = refl
all_among test (q ∷ qs) h =
    rw (h q (or_left (q == q) (among q qs) (eq-eqb q q refl))) (all_among test qs (λ p k. h p (or_right (q == p) (among p qs) k)))

pub all_are_green : (list : ℕ → Bool) (plan : Plan) (ph : ℕ → Phase) → AreGreen list plan ph → all_green plan (λ p. (ph p).interval) list ≡ true
unfolding all_green
all_are_green list plan ph h = all_among (λ p. not (list p) || is_green (ph p).interval) (phases plan) (λ p k. by p k (list p) refl)
  where
    by : (p : ℕ) → among p (phases plan) ≡ true → (b : Bool) → list p ≡ b → (not (list p) || is_green (ph p).interval) ≡ true
    by p k true e = or_right (not (list p)) (is_green (ph p).interval) (h p k e)
    by p k false e = rw e refl

none_left : (i : ℕ) → 1 ≤ i → i ≤ 0 → ⊥
none_left i h k = omega (arith, h, k)

module _ (s : State) (row : Row) (list : ℕ → Bool) (n : ℕ) (x : Stays s row list n) (t : Limits) (w : Within t s.plan n) where
  even : IsSymmetric s.plan
  even = symmetric s.plan x.good.plan.rules

  fair : IsGiven s.plan (rings_given s row)
  fair = given s row x.good

  -- a ring's start is a start
  is_start : (r : Ring) (p : ℕ) → starting s.plan s.rings (rings_given s row) r ≡ Some p → is_started (moves s row) p ≡ true
  unfolding moves moving.moves
  is_start Ring1 p e =
      or_left (is p (starting s.plan s.rings (rings_given s row) Ring1)) (is p (starting s.plan s.rings (rings_given s row) Ring2)) (rw e (eq-eqb p p refl))
  is_start Ring2 p e =
      or_right (is p (starting s.plan s.rings (rings_given s row) Ring1)) (is p (starting s.plan s.rings (rings_given s row) Ring2)) (rw e (eq-eqb p p refl))

  starts_lit : (r : Ring) (p : ℕ) → starting s.plan s.rings (rings_given s row) r ≡ Some p → is_green (interval (after_moves s row) p) ≡ true
  starts_lit r p e = ap is_green (started_green s row p (is_start r p e))

  stays_lit : (p : ℕ) → list p ≡ true → is_green (interval s p) ≡ true → is_green (interval (after_moves s row) p) ≡ true
  stays_lit p h lit =
      let green : interval s p ≡ Green = is_in_green (interval s p) lit in
      ap is_green (still_green s row p (green_no_start s row list n x p green) (wanted_stays s row list n x p h) green)

  module _ (was : IsClean t list s.phases s.rings 0) where
    wanted_lit : (p : ℕ) → is_green (interval s p) ≡ true → list p ≡ true
    wanted_lit p lit = was.greens p (is_in_green (interval s p) lit)

    over_now : (p : ℕ) → in_service (interval s p) ≡ true → is_green (interval s p) ≡ false → over s p ≡ true
    over_now p serves dark =
        elim (cases_Bool (over s p)) [
          | inl h ↦ h
          | inr h ↦ absurd (none_left (clear_of t s.phases p) (not_yet_over s p (t.yellow p) (t.red p) (w.yellow p) (w.red p) (x.timed p) serves dark h) (was.clears p))
        ]

    back_now : (p : ℕ) → list p ≡ true → in_service (interval s p) ≡ false → reverted s p ≡ true
    back_now p h dark =
        elim (cases_Bool (reverted s p)) [
          | inl k ↦ k
          | inr k ↦ absurd (none_left (revert_of t s.phases p)
              (not_yet_reverted s p (t.yellow p) (t.revert p) (w.revert p) (is-red (interval s p) dark) k) (was.reverts p h))
        ]

    targeted : (p : ℕ) → is_enabled s.plan p ≡ true → list p ≡ true → is_targeted s.plan list p ≡ true
    targeted p on h = rw (on, h) refl

    pub due : AreDue s.plan s.rings (rings_given s row) list
    unfolding rings_given
    due = record {
      wanted = told_list s row list n x;
      greens = λ p lit. targeted p (x.on.serves p (serves-green (interval s p) lit)) (wanted_lit p lit);
      over = λ p serves dark. told_over s row p w.untrailed x.few (x.good.rings.listed p serves) ∙ over_now p serves dark;
      bound = λ r c e. clipped_at (reverted s) s.plan c x.few (x.good.rings.owned r c e).1
          ∙ back_now c (was.commits r c e) (promised_red s r c x.calm x.sided x.across e);
      reverted = λ p listed h dark. clipped_at (reverted s) s.plan p x.few listed ∙ back_now p (and_parts (is_enabled s.plan p) (list p) h).1 dark;
    }

    -- a crossing is completed
    pub crossed : (d : ℕ) → s.rings.crossing ≡ Some d → IsRested (after_moves s row).phases (after_moves s row).rings
    unfolding moves rings_given rings_next
    crossed d way = record {
      outside = is_over s.plan s.rings (rings_given s row) (yellow_done s) even x.good.rings fair d way done;
      free = λ r. free_across s.plan s.rings (rings_given s row) (yellow_done s) even x.good.rings fair x.calm list due d way r;
      greens = greens;
    }
      where
        done : completes s.plan s.rings (rings_given s row) ≡ true
        done = completes_it s.plan s.rings (rings_given s row) (yellow_done s) even x.good.rings fair x.calm list due d way

        greens : (p : ℕ) → in_service (interval (after_moves s row) p) ≡ true → is_green (interval (after_moves s row) p) ≡ true
        greens p h =
            elim (after_tick s.plan s.rings (rings_given s row) (yellow_done s) even x.good.rings fair p (sym (ap (λ (f : ℕ → Interval). in_service (f p)) (intervals_after s row)) ∙ h)) [
              | inl k ↦ elim k [ inl one ↦ starts_lit Ring1 p one | inr two ↦ starts_lit Ring2 p two ]
              | inr k ↦ (let own = x.good.rings.ringed p k.was in
                  absurd (none_stays s.plan s.rings (rings_given s row) (yellow_done s) even x.good.rings fair own.0 p (rw way refl) done own.1 k))
            ]

    -- with all that it leads to
    pub crossed_green : IsCrossing s.plan list s.rings → AreGreen list s.plan (after_moves s row).phases
    unfolding moves rings_given
    crossed_green it p listed h =
        let own = it.all p listed h in
        ap is_green (started_green s row p (is_started_then s.plan s.rings (rings_given s row) (yellow_done s) even x.good.rings fair it.way.0 it.way.1 own.0 p
        (completes_it s.plan s.rings (rings_given s row) (yellow_done s) even x.good.rings fair x.calm list due it.way.0 it.way.1) own.1))

    -- what clears goes Red, where no crossing begins
    pub rests : s.rings.crossing ≡ None → begins s.plan s.rings (rings_given s row) ≡ false → IsRested (after_moves s row).phases (after_moves s row).rings
    unfolding moves rings_given rings_next new_crossing completes
    rests out h = record {
      outside = rw (h, out) refl;
      free = λ r. free_here s.plan s.rings (rings_given s row) (yellow_done s) even x.good.rings fair x.calm list due out h r;
      greens = greens;
    }
      where
        greens : (p : ℕ) → in_service (interval (after_moves s row) p) ≡ true → is_green (interval (after_moves s row) p) ≡ true
        greens p k =
            elim (after_tick s.plan s.rings (rings_given s row) (yellow_done s) even x.good.rings fair p (sym (ap (λ (f : ℕ → Interval). in_service (f p)) (intervals_after s row)) ∙ k)) [
              | inl l ↦ elim l [ inl one ↦ starts_lit Ring1 p one | inr two ↦ starts_lit Ring2 p two ]
              | inr l ↦ (let lit : is_green (interval s p) ≡ true =
                  stays_if_green s.plan s.rings (rings_given s row) (yellow_done s) even x.good.rings fair x.calm list due out h p l in
                  stays_lit p (wanted_lit p lit) lit)
            ]

    ringed : (p : ℕ) → IsListed s.plan p → is_enabled s.plan p ≡ true → (r : Ring) × (in_ring s.plan r p ≡ true)
    ringed p listed on =
        let it : IsPlaced s.plan p = placed s.plan x.good.plan.rules p (listed_is_phase s.plan p listed) on in ring_is s.plan p it.ring_from it.ring_to

    enabled : (p : ℕ) → IsListed s.plan p → list p ≡ true → is_enabled s.plan p ≡ true
    enabled p listed h = x.fits.enabled p (listed_is_phase s.plan p listed) h

    -- what is wanted starts, where nothing clears and no crossing begins
    pub starts_all_wanted : IsRested s.phases s.rings → begins s.plan s.rings (rings_given s row) ≡ false → AreGreen list s.plan (after_moves s row).phases
    unfolding rings_given
    starts_all_wanted it h p listed k =
        let on : is_enabled s.plan p ≡ true = enabled p listed k in
        let own = ringed p listed on in
        elim (starts_wanted s.plan s.rings (rings_given s row) (yellow_done s) even x.good.rings fair x.calm list due x.good.plan.rules (pairs_list s row list n x)
        x.sided it.outside it.free it.greens h own.0 p own.1 listed (targeted p on k)) [
          | inl lit ↦ stays_lit p k lit
          | inr e ↦ starts_lit own.0 p e
        ]

    -- a crossing begins to what is wanted
    pub sets_out : begins s.plan s.rings (rings_given s row) ≡ true → IsCrossing s.plan list (after_moves s row).rings
    unfolding moves rings_given rings_next new_crossing
    sets_out h = record {
      way = (target_side s.plan s.rings (rings_given s row), rw h refl);
      all = all;
    }
      where
        all : (p : ℕ) → IsListed s.plan p → list p ≡ true → (r : Ring) × ((after_moves s row).rings.commitment r ≡ Some p)
        all p listed k =
            let on : is_enabled s.plan p ≡ true = enabled p listed k in
            let own = ringed p listed on in (
              own.0,
              commits_wanted s.plan s.rings (rings_given s row) (yellow_done s) even x.good.rings fair x.calm list due x.good.plan.rules
                  (pairs_list s row list n x) h own.0 p own.1 listed (targeted p on k),
            )

  -- ## Each tick brings it nearer

  three : (d : ℕ) → 0 + 3 ≤ d → 2 ≤ d - 1
  three d h = omega (arith, h)

  three_too : (d : ℕ) → 0 + 3 ≤ d → 1 ≤ d - 1
  three_too d h = omega (arith, h)

  two : (d : ℕ) → 2 ≤ d → 1 ≤ d - 1
  two d h = omega (arith, h)

  one_less : (m d : ℕ) → suc m + 3 ≤ d → suc m - 1 + 3 ≤ d - 1
  one_less m d h = omega (arith, h)

  one_less_dirty : (e c d : ℕ) → suc e + c + 4 ≤ d → suc e - 1 + c + 4 ≤ d - 1
  one_less_dirty e c d h = omega (arith, h)

  ends_dirty : (c d : ℕ) → 0 + c + 4 ≤ d → c + 3 ≤ d - 1
  ends_dirty c d h = omega (arith, h)

  abbrev Nearer : ℕ → Type 0
  Nearer d = AreGreen list s.plan (after_moves s row).phases ⊎ Near t list s.plan (after_moves s row).phases (after_moves s row).rings (d - 1)

  over_tick : (d : ℕ) → IsClean t list s.phases s.rings 0 → 0 + 3 ≤ d → Nearer d
  over_tick d was time = go s.rings.crossing refl
    where
      after : IsClean t list (after_moves s row).phases (after_moves s row).rings 0
      after = clean_tick s row list n x t w 0 was

      by : s.rings.crossing ≡ None → (b : Bool) → begins s.plan s.rings (rings_given s row) ≡ b → Nearer d
      by out true h = inr (crosses after (sets_out was h) (three_too d time))
      by out false h = inr (rested after (rests was out h) (three d time))

      go : (o : Option ℕ) → s.rings.crossing ≡ o → Nearer d
      go None out = by out (begins s.plan s.rings (rings_given s row)) refl
      go (Some e) way = inr (rested after (crossed was e way) (three d time))

  rested_tick : (d : ℕ) → IsClean t list s.phases s.rings 0 → IsRested s.phases s.rings → 2 ≤ d → Nearer d
  rested_tick d was it time = go (begins s.plan s.rings (rings_given s row)) refl
    where
      go : (b : Bool) → begins s.plan s.rings (rings_given s row) ≡ b → Nearer d
      go true h = inr (crosses (clean_tick s row list n x t w 0 was) (sets_out was h) (two d time))
      go false h = inl (starts_all_wanted was it h)

  pub nearer : (d : ℕ) → Near t list s.plan s.phases s.rings d → Nearer d
  nearer d (dirty k zero was time) = inr (clean t.clears (clean_from s row list n x t w k was) (ends_dirty t.clears d time))
  nearer d (dirty k (suc e) was time) =
      inr (dirty (k - 1) (suc e - 1) (dirty_tick s row list n x t w k (suc e) (omega arith) was) (one_less_dirty e t.clears d time))
  nearer d (clean zero was time) = over_tick d was time
  nearer d (clean (suc m) was time) = inr (clean (suc m - 1) (clean_tick s row list n x t w (suc m) was) (one_less m d time))
  nearer d (rested was it time) = rested_tick d was it time
  nearer d (crosses was it time) = inl (crossed_green was it)
