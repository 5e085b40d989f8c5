-- A commitment that is made as a green ends starts in time.
use Rattle.std.proofs.Common.{◌≡◌, ℕ, ◌+◌, ◌<◌, ◌≤◌, ◌==◌, Bool, true, false, not, ◌||◌, max, List, [], ◌∷◌, ◌++◌, Some, None, refl, sym, ap, subst, ◌∙◌, inl, inr, ◌⊎◌, arith}
use Rattle.std.proofs.lemmas.Bool.{cases_Bool, and_parts, not-true, true≢false}
use Rattle.tsb_step.specs.tsb_types.declared.interval.Interval.TheVariants.{Green, Yellow, RedClear}
use Rattle.tsb_step.specs.tsb_types.declared.row.Row.{Row}
use Rattle.tsb_step.specs.tsb_types.Intervals.{is_green, is_yellow, is_red_clear, in_service}
use Rattle.tsb_step.specs.tsb_plan.Plan.{Plan, is_enabled, yellow_change, red_clear, red_revert}
use Rattle.tsb_step.specs.tsb_phase.Ready.{yellow_is_done}
use Rattle.tsb_step.specs.tsb_ring.Rings as rings
use Rattle.tsb_step.specs.tsb_ring.Rings.{Ring, in_ring, serving}
use Rattle.tsb_step.specs.tsb_ring.Wants.{pick}
use Rattle.tsb_step.specs.tsb_ring.Next.{starting, next as rings_next}
use Rattle.tsb_step.specs.tsb_ring.Moves.{is_ended, is_cleared, is_started}
use Rattle.tsb_step.specs.tsb_ring.Laws.{IsSymmetric}
use Rattle.tsb_step.proofs.tsb_ring.SoundLemmas.{new_commits}
use Rattle.tsb_step.proofs.tsb_ring.WaitLemmas.{is_serving}
use Rattle.tsb_step.specs.declared.inputs.Input.{Input}
use Rattle.tsb_step.specs.declared.inputs.Input.TheVariants.{Tick}
use Rattle.tsb_step.specs.State.{State, interval}
use Rattle.tsb_step.specs.Tick.{rings_given, phase_read, moves, over, reverted, yellow_done, next}
use Rattle.tsb_step.specs.Signs.{is_choosing}
use Rattle.tsb_step.specs.Step.{step, kind_of}
use Rattle.tsb_step.specs.Runs.{replay, AreTaken}
use Rattle.tsb_step.specs.Past.{ticks_of}
use Rattle.tsb_step.specs.Laws.{IsConsistent}
use Rattle.tsb_step.specs.Good.{IsGood}
use Rattle.tsb_step.specs.TimeLaws.{held_for, TellsTime, StandsOrStarts}
use Rattle.tsb_step.proofs.ClearLemmas.{plan_stays, one_later}
use Rattle.tsb_step.proofs.EventLemmas.{ended_now}
use Rattle.tsb_step.proofs.GivenLemmas.{symmetric, given}
use Rattle.tsb_step.proofs.GoodLemmas.{good_run}
use Rattle.tsb_step.proofs.GiveUpLemmas.{committed_by_moves, outside_by_moves, outside_then}
use Rattle.tsb_step.proofs.StandLemmas.{rings_then, stands_in_runs}
use Rattle.tsb_step.proofs.TellLemmas.{held_on, held_none, dark_before, timers_tell_time}
use Rattle.tsb_step.proofs.YellowLemmas.{long_yellow}
use Rattle.tsb_laws.specs.Stretches.{IsUntripped, has_held_since, NoneChooses, has_no_trails, NoneTrails, largest, StartsGreen}
use Rattle.tsb_laws.proofs.safety.UnheldLemmas.{told_over, untrailed_before, untrailed_now}
use Rattle.tsb_laws.specs.Commitments.{CommitsTo, wait, HasStarted, StartsWithin}
use Rattle.tsb_laws.proofs.safety.StretchLemmas.{dark_now, taken_before, IsSame, Goes, ticks, stays, goes, at_next}
use Rattle.tsb_laws.proofs.safety.IntergreenLemmas.{turns_yellow}
use Rattle.tsb_laws.proofs.safety.ChoiceLemmas.{Chosen, is_called, is_wanted, pick_chosen}
use Rattle.tsb_laws.proofs.safety.EnabledLemmas.{callable_no_green, enabled_run}
use Rattle.tsb_laws.proofs.safety.DueLemmas.{largest_now, largest_more, ring_same, count_run, clipped_at, dark_of, reverts_later, not_over_in_yellow, not_over_in_red_clear, not_lasted}
use Rattle.tsb_laws.proofs.safety.RingLemmas.{made_by_pick, stays_outside, starts_not, clears_not, waits_for}

-- ## While the commitment waits

-- the phase whose green ended is clearing, for as long as the plans in effect say at most
data Clears (plan : Plan) (base : List Input) (p : ℕ) (later : List Input) : Type 0 where
  in_yellow : interval (replay plan (later ++ base)) p ≡ Yellow →
      (replay plan base).now + held_for (λ s. is_yellow (interval s p)) plan (later ++ base) ≡ (replay plan (later ++ base)).now →
      held_for (λ s. is_yellow (interval s p)) plan (later ++ base) < largest (λ x. yellow_change x p) plan base later → Clears plan base p later
  in_red_clear : interval (replay plan (later ++ base)) p ≡ RedClear →
      (replay plan (later ++ base)).now
      ≤ (replay plan base).now + largest (λ x. yellow_change x p) plan base later + held_for (λ s. is_red_clear (interval s p)) plan (later ++ base) →
      Clears plan base p later

clears_serve : (plan : Plan) (base : List Input) (p : ℕ) (later : List Input) → Clears plan base p later →
    in_service (interval (replay plan (later ++ base)) p) ≡ true
clears_serve plan base p later (in_yellow e a b) = rw e refl
clears_serve plan base p later (in_red_clear e a) = rw e refl

record Waits (plan : Plan) (base : List Input) (p : ℕ) (r : Ring) (c : ℕ) (later : List Input) : Type 0 where
  pub ringed : in_ring (replay plan (later ++ base)).plan r p ≡ true
  pub commits : (replay plan (later ++ base)).rings.commitment r ≡ Some c
  pub outside : (replay plan (later ++ base)).rings.crossing ≡ None
  pub clears : Clears plan base p later
  pub reverts : (replay plan (later ++ base)).now
      ≤ (replay plan base).now + held_for (λ s. not (is_green (interval s c) || is_yellow (interval s c))) plan (later ++ base)
  pub early : (replay plan (later ++ base)).now < (replay plan base).now + wait plan base p c later

-- it waits, or has started
data Stage (plan : Plan) (base : List Input) (p : ℕ) (r : Ring) (c : ℕ) (later : List Input) : Type 0 where
  waits : Waits plan base p r c later → Stage plan base p r c later
  started : HasStarted plan base c (wait plan base p c later) later → Stage plan base p r c later

module _ (plan : Plan) (base : List Input) (p : ℕ) (r : Ring) (c : ℕ) (ok : IsConsistent plan) (few : plan.phase_count ≤ 16) (apart : c ≡ p → ⊥) where
  wait_grows : (i : Input) (later : List Input) → wait plan base p c later ≤ wait plan base p c (i ∷ later)
  wait_grows i later =
      let y = largest_more (λ x. yellow_change x p) plan base later i in
      let w = largest_more (λ x. red_clear x p) plan base later i in
      let v = largest_more (λ x. red_revert x c) plan base later i in
      at_most _ _ _ _ _ _ y w v
    where
      at_most : (a b d e f g : ℕ) → a ≤ e → b ≤ f → d ≤ g → max (a + b) d ≤ max (e + f) g
      at_most a b d e f g x y z = omega (arith, x, y, z)

  -- the commitment is not in service, as its ring serves p
  is_red : (is : List Input) → AreTaken plan is → in_ring (replay plan is).plan r p ≡ true → in_service (interval (replay plan is) p) ≡ true →
      (replay plan is).rings.commitment r ≡ Some c → in_service (interval (replay plan is) c) ≡ false
  is_red is taken own serves e =
      elim (cases_Bool (in_service (interval (replay plan is) c))) [
        | inr h ↦ h
        | inl h ↦ absurd (apart (good.rings.alone r c p (good.rings.owned r c e).0 own h serves))
      ]
    where
      good : IsGood (replay plan is)
      good = good_run plan is ok taken

  red_on : (i : Input) (later : List Input) → AreTaken plan (i ∷ (later ++ base)) → in_ring (replay plan (i ∷ (later ++ base))).plan r p ≡ true →
      in_service (interval (replay plan (i ∷ (later ++ base))) p) ≡ true → (replay plan (i ∷ (later ++ base))).rings.commitment r ≡ Some c →
      Waits plan base p r c later →
      held_for (λ s. not (is_green (interval s c) || is_yellow (interval s c))) plan (i ∷ (later ++ base))
      ≡ ticks_of (kind_of i) + held_for (λ s. not (is_green (interval s c) || is_yellow (interval s c))) plan (later ++ base)
  red_on i later taken own serves e was =
      held_on (λ s. not (is_green (interval s c) || is_yellow (interval s c))) plan i (later ++ base)
      (dark_of (interval (replay plan (i ∷ (later ++ base))) c) (is_red (i ∷ (later ++ base)) taken own serves e))
      (dark_of (interval (replay plan (later ++ base)) c)
      (is_red (later ++ base) taken.0 was.ringed (clears_serve plan base p later was.clears) was.commits))

  ring_on : (i : Input) (later : List Input) → AreTaken plan (i ∷ (later ++ base)) → Waits plan base p r c later →
      in_ring (replay plan (i ∷ (later ++ base))).plan r p ≡ true
  ring_on i later taken was =
      ap (λ (x : ℕ). x == rings.number r)
      (ring_same (replay plan (later ++ base)) i p (good_run plan (later ++ base) ok taken.0) taken.1 (clears_serve plan base p later was.clears))
      ∙ was.ringed

  -- ## An input that is no tick

  clears_still : (i : Input) (later : List Input) → ticks_of (kind_of i) ≡ 0 →
      IsSame (replay plan (later ++ base)) (step (replay plan (later ++ base)) i) → Clears plan base p later → Clears plan base p (i ∷ later)
  clears_still i later none same (in_yellow e t below) =
      let now : interval (replay plan (i ∷ (later ++ base))) p ≡ Yellow = same.interval p ∙ e in
      let held : held_for (λ s. is_yellow (interval s p)) plan (i ∷ (later ++ base)) ≡ ticks_of (kind_of i) + held_for (λ s. is_yellow (interval s p)) plan (later ++ base) =
      held_on (λ s. is_yellow (interval s p)) plan i (later ++ base) (rw now refl) (rw e refl) in
      let clock : (replay plan (i ∷ (later ++ base))).now ≡ (replay plan (later ++ base)).now = same.now in
      let more = largest_more (λ x. yellow_change x p) plan base later i in
      in_yellow now (omega (arith, none, held, clock, t)) (omega (arith, none, held, more, below))
  clears_still i later none same (in_red_clear e t) =
      let now : interval (replay plan (i ∷ (later ++ base))) p ≡ RedClear = same.interval p ∙ e in
      let held : held_for (λ s. is_red_clear (interval s p)) plan (i ∷ (later ++ base)) ≡ ticks_of (kind_of i) + held_for (λ s. is_red_clear (interval s p)) plan (later ++ base) =
      held_on (λ s. is_red_clear (interval s p)) plan i (later ++ base) (rw now refl) (rw e refl) in
      let clock : (replay plan (i ∷ (later ++ base))).now ≡ (replay plan (later ++ base)).now = same.now in
      let more = largest_more (λ x. yellow_change x p) plan base later i in
      in_red_clear now (omega (arith, none, held, clock, more, t))

  still : (i : Input) (later : List Input) → AreTaken plan (i ∷ (later ++ base)) → ticks_of (kind_of i) ≡ 0 →
      IsSame (replay plan (later ++ base)) (step (replay plan (later ++ base)) i) → Waits plan base p r c later → Waits plan base p r c (i ∷ later)
  still i later taken none same was =
      let clock : (replay plan (i ∷ (later ++ base))).now ≡ (replay plan (later ++ base)).now = same.now in
      let commits : (replay plan (i ∷ (later ++ base))).rings.commitment r ≡ Some c = same.commitment r ∙ was.commits in
      let own : in_ring (replay plan (i ∷ (later ++ base))).plan r p ≡ true = ring_on i later taken was in
      let clears : Clears plan base p (i ∷ later) = clears_still i later none same was.clears in
      let held = red_on i later taken own (clears_serve plan base p (i ∷ later) clears) commits was in
      let more = wait_grows i later in
      let reverts = was.reverts in
      let early = was.early in
      record {
        ringed = own;
        commits = commits;
        outside = same.crossing ∙ was.outside;
        clears = clears;
        reverts = omega (arith, clock, held, none, reverts);
        early = omega (arith, clock, more, early);
      }

  -- ## A tick

  -- the ring starts nothing in a tick after which it still has the commitment
  record Quiet (row : Row) (later : List Input) : Type 0 where
    pub no_start : is_started (moves (replay plan (later ++ base)) row) p ≡ false
    pub no_clear : is_cleared (moves (replay plan (later ++ base)) row) p ≡ false
    pub out : (step (replay plan (later ++ base)) (Tick row)).rings.crossing ≡ None
    pub late : (over (replay plan (later ++ base)) p ≡ false) ⊎ (reverted (replay plan (later ++ base)) c ≡ false)

  few_now : (is : List Input) → (replay plan is).plan.phase_count ≤ 16
  few_now is = let same = count_run plan is in omega (arith, same, few)

  quiet : (row : Row) (later : List Input) → AreTaken plan (later ++ base) → (replay plan (later ++ base)).trip ≡ None →
      has_no_trails (replay plan (later ++ base)).plan ≡ true → Waits plan base p r c later →
      (step (replay plan (later ++ base)) (Tick row)).rings.commitment r ≡ Some c → Quiet row later
  unfolding moves rings_given rings_next
  quiet row later taken dark free was stands = record {
    no_start = starts_not s.plan s.rings (rings_given s row) (yellow_done s) even good.rings (given s row good) r p was.ringed none;
    no_clear = clears_not s.plan s.rings (rings_given s row) r p c was.ringed was.commits none;
    out = ap (λ (x : rings.State). x.crossing) (rings_then s row dark)
        ∙ outside_then s row (stays_outside s.plan s.rings (rings_given s row) r c was.commits was.outside);
    late = late (waits_for s.plan s.rings (rings_given s row) r p c good.rings was.ringed serves was.outside was.commits none);
  }
    where
      s : State
      s = replay plan (later ++ base)

      good : IsGood (replay plan (later ++ base))
      good = good_run plan (later ++ base) ok taken

      even : IsSymmetric s.plan
      even = symmetric s.plan good.plan.rules

      serves : in_service (interval (replay plan (later ++ base)) p) ≡ true
      serves = clears_serve plan base p later was.clears

      none : starting s.plan s.rings (rings_given s row) r ≡ None
      none = (new_commits s.plan s.rings (rings_given s row) (yellow_done s) even good.rings (given s row good) r c
          (committed_by_moves s row r c (sym (ap (λ (x : rings.State). x.commitment r) (rings_then s row dark)) ∙ stands))).0

      late : ((rings_given s row).over p ≡ false) ⊎ ((rings_given s row).reverted c ≡ false) →
          (over (replay plan (later ++ base)) p ≡ false) ⊎ (reverted (replay plan (later ++ base)) c ≡ false)
      late (inl h) = inl (sym (told_over s row p free (few_now (later ++ base)) (good.rings.listed p serves)) ∙ h)
      late (inr h) = inr (sym (clipped_at (reverted s) s.plan c (few_now (later ++ base)) (good.rings.owned r c was.commits).1) ∙ h)

  -- p goes on clearing, and if it is not over there is time left
  record GoesOn (row : Row) (later : List Input) : Type 0 where
    pub clears : Clears plan base p (Tick row ∷ later)
    pub time : over (replay plan (later ++ base)) p ≡ false →
        (replay plan (later ++ base)).now + 1
        < (replay plan base).now + (largest (λ x. yellow_change x p) plan base later + largest (λ x. red_clear x p) plan base later)

  goes_on : (row : Row) (later : List Input) → AreTaken plan (later ++ base) → (replay plan (later ++ base)).trip ≡ None → Quiet row later →
      Clears plan base p later → GoesOn row later
  goes_on row later taken dark q (in_yellow e t below) = go (yellow_is_done s.plan p (phase_read s p)) refl
    where
      s : State
      s = replay plan (later ++ base)

      clock : (replay plan (Tick row ∷ (later ++ base))).now ≡ (replay plan (later ++ base)).now + 1
      clock = one_later s row

      more : largest (λ x. yellow_change x p) plan base later ≤ largest (λ x. yellow_change x p) plan base (Tick row ∷ later)
      more = largest_more (λ x. yellow_change x p) plan base later (Tick row)

      told : TellsTime plan (later ++ base) p
      told = timers_tell_time plan (later ++ base) ok taken dark p

      go : (d : Bool) → yellow_is_done s.plan p (phase_read s p) ≡ d → GoesOn row later
      go false d =
          let now : interval (replay plan (Tick row ∷ (later ++ base))) p ≡ Yellow = at_next s row p dark ∙ rw (q.no_start, e, q.no_clear, rw e at d) refl in
          let held : held_for (λ s. is_yellow (interval s p)) plan (Tick row ∷ (later ++ base)) ≡ 1 + held_for (λ s. is_yellow (interval s p)) plan (later ++ base) =
          held_on (λ s. is_yellow (interval s p)) plan (Tick row) (later ++ base) (rw now refl) (rw e refl) in
          let soon : held_for (λ s. is_yellow (interval s p)) plan (later ++ base) + 1 < yellow_change s.plan p =
          not_lasted (s.phases p).timer _ (yellow_change s.plan p) (told.yellow e) (rw e at d) in
          let most = largest_now (λ x. yellow_change x p) plan base later in
          record {
            clears = in_yellow now (omega (arith, clock, held, t)) (omega (arith, held, soon, most, more));
            time = λ h. omega (arith, t, soon, most);
          }
      go true d =
          let now : interval (replay plan (Tick row ∷ (later ++ base))) p ≡ RedClear = at_next s row p dark ∙ rw (q.no_start, e, q.no_clear, rw e at d) refl in
          let held : held_for (λ s. is_red_clear (interval s p)) plan (Tick row ∷ (later ++ base)) ≡ 0 =
          held_none (λ s. is_red_clear (interval s p)) plan (Tick row) (later ++ base) (rw e refl) in
          record {
            clears = in_red_clear now (omega (arith, clock, held, t, below, more));
            time = λ h. (let some : 1 ≤ red_clear s.plan p = not_over_in_yellow s p e h d in
                let most = largest_now (λ x. red_clear x p) plan base later in omega (arith, t, below, some, most));
          }
  goes_on row later taken dark q (in_red_clear e t) =
      let s : State = replay plan (later ++ base) in
      let told : TellsTime plan (later ++ base) p = timers_tell_time plan (later ++ base) ok taken dark p in
      let now : interval (replay plan (Tick row ∷ (later ++ base))) p ≡ RedClear = at_next s row p dark ∙ rw (q.no_start, e, q.no_clear) refl in
      let held : held_for (λ s. is_red_clear (interval s p)) plan (Tick row ∷ (later ++ base)) ≡ 1 + held_for (λ s. is_red_clear (interval s p)) plan (later ++ base) =
      held_on (λ s. is_red_clear (interval s p)) plan (Tick row) (later ++ base) (rw now refl) (rw e refl) in
      let clock : (replay plan (Tick row ∷ (later ++ base))).now ≡ (replay plan (later ++ base)).now + 1 = one_later s row in
      let more = largest_more (λ x. yellow_change x p) plan base later (Tick row) in
      record {
        clears = in_red_clear now (omega (arith, clock, held, more, t));
        time = λ h. (let soon : held_for (λ s. is_red_clear (interval s p)) plan (later ++ base) + 1 < red_clear (replay plan (later ++ base)).plan p =
            not_lasted ((replay plan (later ++ base)).phases p).timer _ (red_clear (replay plan (later ++ base)).plan p) (told.red_clear e)
            (not_over_in_red_clear (replay plan (later ++ base)) p e h) in
            let most = largest_now (λ x. red_clear x p) plan base later in omega (arith, t, soon, most));
      }

  ticked_on : (row : Row) (later : List Input) → AreTaken plan (Tick row ∷ (later ++ base)) → (replay plan (later ++ base)).trip ≡ None →
      has_no_trails (replay plan (later ++ base)).plan ≡ true → Waits plan base p r c later →
      (replay plan (Tick row ∷ (later ++ base))).rings.commitment r ≡ Some c → Waits plan base p r c (Tick row ∷ later)
  ticked_on row later taken dark free was stands =
      let q : Quiet row later = quiet row later taken.0 dark free was stands in
      let on : GoesOn row later = goes_on row later taken.0 dark q was.clears in
      let own : in_ring (replay plan (Tick row ∷ (later ++ base))).plan r p ≡ true = ring_on (Tick row) later taken was in
      let held : held_for (λ s. not (is_green (interval s c) || is_yellow (interval s c))) plan (Tick row ∷ (later ++ base))
      ≡ 1 + held_for (λ s. not (is_green (interval s c) || is_yellow (interval s c))) plan (later ++ base) =
      red_on (Tick row) later taken own (clears_serve plan base p (Tick row ∷ later) on.clears) stands was in
      let clock : (replay plan (Tick row ∷ (later ++ base))).now ≡ (replay plan (later ++ base)).now + 1 = one_later (replay plan (later ++ base)) row in
      let reverts = was.reverts in
      record {
        ringed = own;
        commits = stands;
        outside = q.out;
        clears = on.clears;
        reverts = omega (arith, clock, held, reverts);
        early = elim q.late [ inl h ↦ by_clearance h on.time | inr h ↦ by_revert h ];
      }
    where
      by_clearance : over (replay plan (later ++ base)) p ≡ false → (over (replay plan (later ++ base)) p ≡ false →
          (replay plan (later ++ base)).now + 1
          < (replay plan base).now + (largest (λ x. yellow_change x p) plan base later + largest (λ x. red_clear x p) plan base later)) →
          (replay plan (Tick row ∷ (later ++ base))).now < (replay plan base).now + wait plan base p c (Tick row ∷ later)
      by_clearance h time =
          let clock : (replay plan (Tick row ∷ (later ++ base))).now ≡ (replay plan (later ++ base)).now + 1 = one_later (replay plan (later ++ base)) row in
          let soon = time h in
          let more = wait_grows (Tick row) later in
          let one : largest (λ x. yellow_change x p) plan base later + largest (λ x. red_clear x p) plan base later ≤ wait plan base p c later = omega arith in
          omega (arith, clock, soon, more, one)

      by_revert : reverted (replay plan (later ++ base)) c ≡ false →
          (replay plan (Tick row ∷ (later ++ base))).now < (replay plan base).now + wait plan base p c (Tick row ∷ later)
      by_revert h =
          let clock : (replay plan (Tick row ∷ (later ++ base))).now ≡ (replay plan (later ++ base)).now + 1 = one_later (replay plan (later ++ base)) row in
          let soon = reverts_later plan (later ++ base) c ok taken.0 dark
          (is_red (later ++ base) taken.0 was.ringed (clears_serve plan base p later was.clears) was.commits) h in
          let more = wait_grows (Tick row) later in
          let most = largest_now (λ x. red_revert x c) plan base later in
          let one : largest (λ x. red_revert x c) plan base later ≤ wait plan base p c later = omega arith in
          let reverts = was.reverts in
          omega (arith, clock, soon, more, most, one, reverts)

  starts_now : (row : Row) (later : List Input) → Waits plan base p r c later → StartsGreen plan (later ++ base) row c →
      HasStarted plan base c (wait plan base p c (Tick row ∷ later)) (Tick row ∷ later)
  starts_now row later was starts =
      let clock : (replay plan (Tick row ∷ (later ++ base))).now ≡ (replay plan (later ++ base)).now + 1 = one_later (replay plan (later ++ base)) row in
      let more = wait_grows (Tick row) later in
      let early = was.early in
      record { older = later; next = row; newer = []; parts = refl; started = starts; in_time = omega (arith, clock, more, early) }

  one_more : (i : Input) (later : List Input) → HasStarted plan base c (wait plan base p c later) later →
      HasStarted plan base c (wait plan base p c (i ∷ later)) (i ∷ later)
  one_more i later x =
      let more = wait_grows i later in
      let in_time = x.in_time in
      record {
        older = x.older;
        next = x.next;
        newer = i ∷ x.newer;
        parts = ap (λ (l : List Input). i ∷ l) x.parts;
        started = x.started;
        in_time = omega (arith, more, in_time);
      }

  one_on : (i : Input) (later : List Input) → AreTaken plan (i ∷ (later ++ base)) → (replay plan (later ++ base)).trip ≡ None →
      has_no_trails (replay plan (later ++ base)).plan ≡ true → is_choosing (replay plan (i ∷ (later ++ base))) ≡ false →
      Stage plan base p r c later → Stage plan base p r c (i ∷ later)
  one_on i later taken dark free none (started x) = started (one_more i later x)
  one_on i later taken dark free none (waits was) = go (goes (replay plan (later ++ base)) i dark)
    where
      tick : (row : Row) → AreTaken plan (Tick row ∷ (later ++ base)) → is_choosing (replay plan (Tick row ∷ (later ++ base))) ≡ false →
          Stage plan base p r c (Tick row ∷ later)
      tick row taken' chooses_not =
          by (stands_in_runs (replay plan (later ++ base)) (good_run plan (later ++ base) ok taken'.0) (Tick row) r c dark chooses_not was.commits)
        where
          by : StandsOrStarts (replay plan (later ++ base)) (Tick row) r c → Stage plan base p r c (Tick row ∷ later)
          by (inl stands) = waits (ticked_on row later taken' dark free was stands)
          by (inr starts) = started (starts_now row later was (record { was_not = starts.0; starts = starts.1 }))

      go : Goes (replay plan (later ++ base)) i → Stage plan base p r c (i ∷ later)
      go (ticks row e) =
          subst (λ (j : Input). Stage plan base p r c (j ∷ later)) (sym e)
          (tick row (subst (λ (j : Input). AreTaken plan (j ∷ (later ++ base))) e taken)
          (subst (λ (j : Input). is_choosing (replay plan (j ∷ (later ++ base))) ≡ false) e none))
      go (stays no_tick same) = waits (still i later taken no_tick same was)

  stage : (later : List Input) → AreTaken plan (later ++ base) → IsUntripped plan base later → NoneChooses plan base later → NoneTrails plan base later →
      Stage plan base p r c [] → Stage plan base p r c later
  stage [] taken dark none free first = first
  stage (i ∷ later) taken dark none free first =
      let free_before : NoneTrails plan base later = untrailed_before plan base i later free in
      let both = and_parts (not (is_choosing (replay plan (i ∷ (later ++ base))))) (has_held_since (λ s. not (is_choosing s)) plan base later) none in
      one_on i later taken (dark_now plan base later dark.0) (untrailed_now plan base later free_before) (not-true (is_choosing (replay plan (i ∷ (later ++ base)))) both.0)
      (stage later taken.0 dark.0 both.1 free_before first)

-- ## As the commitment is made

-- a phase that a ring chooses is not the green one that it ends
chosen_is_other : (s : State) (row : Row) (r : Ring) (p c : ℕ) → IsGood s → in_ring s.plan r p ≡ true → interval s p ≡ Green →
    pick s.plan s.rings (rings_given s row) r ≡ Some c → c ≡ p → ⊥
unfolding rings_given
chosen_is_other s row r p c good own green h same = go (pick_chosen s.plan s.rings (rings_given s row) r c h)
  where
    go : Chosen s.plan (rings_given s row) r c → ⊥
    go (is_called k) = true≢false (sym (ap is_green green) ∙ sym (ap (λ (x : ℕ). is_green (interval s x)) same) ∙ callable_no_green s row c k)
    go (is_wanted target e k l) =
        let serving_p : serving s.plan (rings_given s row) r ≡ Some p = is_serving s.plan s.rings (rings_given s row) r p good.rings own (ap in_service green) in
        true≢false (sym (rw same at k) ∙ (rw serving_p at l))

made_so : (s : State) (row : Row) (r : Ring) (p c : ℕ) → IsGood s → s.trip ≡ None → in_ring s.plan r p ≡ true → is_ended (moves s row) p ≡ true →
    (step s (Tick row)).rings.commitment r ≡ Some c → (step s (Tick row)).rings.crossing ≡ None → pick s.plan s.rings (rings_given s row) r ≡ Some c
unfolding moves rings_given rings_next
made_so s row r p c good dark own ended made out =
    made_by_pick s.plan s.rings (rings_given s row) (yellow_done s) (symmetric s.plan good.plan.rules) good.rings (given s row good) r p c own ended
    (outside_by_moves s row r c (sym (ap (λ (x : rings.State). x.crossing) (rings_then s row dark)) ∙ out) made_then)
    (committed_by_moves s row r c made_then)
  where
    made_then : (next s row).rings.commitment r ≡ Some c
    made_then = sym (ap (λ (x : rings.State). x.commitment r) (rings_then s row dark)) ∙ made

pub are_served : (plan : Plan) (is later : List Input) (row : Row) (p : ℕ) (r : Ring) (c : ℕ) → IsConsistent plan → plan.phase_count ≤ 16 →
    AreTaken plan (later ++ (Tick row ∷ is)) → IsUntripped plan (Tick row ∷ is) later → NoneChooses plan (Tick row ∷ is) later →
    NoneTrails plan (Tick row ∷ is) later → CommitsTo plan is row p r c → StartsWithin plan (Tick row ∷ is) c (wait plan (Tick row ∷ is) p c later) later
are_served plan is later row p r c ok few taken dark none free x = go (stage plan (Tick row ∷ is) p r c ok few apart later taken dark none free (waits first))
  where
    there : AreTaken plan (Tick row ∷ is)
    there = taken_before plan (Tick row ∷ is) later taken

    good : IsGood (replay plan is)
    good = good_run plan is ok there.0

    yellow : interval (replay plan (Tick row ∷ is)) p ≡ Yellow
    yellow = turns_yellow plan is row p ok there.0 x.ended

    dark_first : (l : List Input) → IsUntripped plan (Tick row ∷ is) l → (replay plan (Tick row ∷ is)).trip ≡ None
    dark_first [] h = h
    dark_first (i ∷ l) h = dark_first l h.0

    dark_before_it : (replay plan is).trip ≡ None
    dark_before_it = dark_before (replay plan is) (Tick row) refl (dark_first later dark)

    apart : c ≡ p → ⊥
    apart =
        chosen_is_other (replay plan is) row r p c good x.ringed x.ended.was_green
        (made_so (replay plan is) row r p c good dark_before_it x.ringed (ended_now (replay plan is) row p dark_before_it x.ended.was_green yellow) x.made x.outside)

    first : Waits plan (Tick row ∷ is) p r c []
    first =
        let held : held_for (λ s. is_yellow (interval s p)) plan (Tick row ∷ is) ≡ 0 =
        held_none (λ s. is_yellow (interval s p)) plan (Tick row) is (rw x.ended.was_green refl) in
        let on : is_enabled (replay plan (Tick row ∷ is)).plan p ≡ true = (enabled_run plan (Tick row ∷ is) ok there).serves p (rw yellow refl) in
        let long : 30 ≤ yellow_change (replay plan (Tick row ∷ is)).plan p =
        long_yellow (replay plan (Tick row ∷ is)) p (good_run plan (Tick row ∷ is) ok there) (rw yellow refl) on in
        record {
          ringed = ap (λ (y : Plan). in_ring y r p) (plan_stays (replay plan is) row) ∙ x.ringed;
          commits = x.made;
          outside = x.outside;
          clears = in_yellow yellow (omega (arith, held)) (omega (arith, held, long));
          reverts = omega arith;
          early = omega (arith, long);
        }

    go : Stage plan (Tick row ∷ is) p r c later → StartsWithin plan (Tick row ∷ is) c (wait plan (Tick row ∷ is) p c later) later
    go (waits w) = inr w.early
    go (started y) = inl y
