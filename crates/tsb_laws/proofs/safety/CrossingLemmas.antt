-- A crossing that begins is completed in time.
use Rattle.std.proofs.Common.{suc, ◌≡◌, ℕ, ◌+◌, ◌<◌, ◌≤◌, Bool, true, false, not, ◌||◌, List, [], ◌∷◌, ◌++◌, Some, None, refl, sym, ap, subst, ◌∙◌, inl, inr, ◌⊎◌, arith}
use Rattle.std.proofs.lemmas.Bool.{cases_Bool, and_parts, not-true, false≢true}
use Rattle.tsb_step.specs.tsb_types.declared.interval.Interval.{Interval}
use Rattle.tsb_step.specs.tsb_types.declared.interval.Interval.TheVariants.{Red, Green, Yellow, RedClear}
use Rattle.tsb_step.specs.tsb_types.declared.row.Row.{Row}
use Rattle.tsb_step.specs.tsb_types.Intervals.{is_green, is_yellow, is_red_clear, in_service}
use Rattle.tsb_step.specs.tsb_plan.Plan.{Plan, yellow_change, red_clear, red_revert}
use Rattle.tsb_step.specs.tsb_phase.Ready.{yellow_is_done}
use Rattle.tsb_step.specs.tsb_ring.Rings as rings
use Rattle.tsb_step.specs.tsb_ring.Rings.{Ring, Ring1, Ring2}
use Rattle.tsb_step.specs.tsb_ring.Crossings.{begins, target_side}
use Rattle.tsb_step.specs.tsb_ring.Next.{completes, starting, new_side, new_crossing, next as rings_next}
use Rattle.tsb_step.specs.tsb_ring.Moves.{is_ended, is_cleared, is_started}
use Rattle.tsb_step.specs.tsb_ring.Laws.{IsSymmetric, IsGiven}
use Rattle.tsb_step.proofs.tsb_ring.SoundLemmas.{after_tick}
use Rattle.tsb_step.specs.declared.inputs.Input.{Input}
use Rattle.tsb_step.specs.declared.inputs.Input.TheVariants.{Tick}
use Rattle.tsb_step.specs.State.{State, interval}
use Rattle.tsb_step.specs.Tick.{rings_given, phase_read, moves, over, reverted, yellow_done, gives_up, after_moves, next}
use Rattle.tsb_step.specs.Signs.{is_choosing}
use Rattle.tsb_step.specs.Step.{step, kind_of}
use Rattle.tsb_step.specs.Runs.{replay, AreTaken}
use Rattle.tsb_step.specs.Past.{ticks_of}
use Rattle.tsb_step.specs.Laws.{IsConsistent}
use Rattle.tsb_step.specs.Good.{IsGood}
use Rattle.tsb_step.specs.TimeLaws.{held_for, TellsTime, IsSided}
use Rattle.tsb_step.proofs.ClearLemmas.{one_later}
use Rattle.tsb_step.proofs.GivenLemmas.{symmetric, given}
use Rattle.tsb_step.proofs.GoodLemmas.{good_run}
use Rattle.tsb_step.proofs.IntervalLemmas.{intervals_after}
use Rattle.tsb_step.proofs.SideRunLemmas.{sided_run}
use Rattle.tsb_step.proofs.GiveUpLemmas.{crossing_by_moves}
use Rattle.tsb_step.proofs.StandLemmas.{rings_then, rings_moved, gives_none_then}
use Rattle.tsb_step.proofs.TellLemmas.{held_on, dark_before, timers_tell_time}
use Rattle.tsb_laws.specs.Stretches.{IsUntripped, has_held_since, NoneChooses, has_no_trails, NoneTrails, largest, StartsGreen}
use Rattle.tsb_laws.proofs.safety.UnheldLemmas.{told_over, untrailed_before, untrailed_now}
use Rattle.tsb_laws.specs.Crossings.{BeginsCrossing, TakesAtMost, IsCompleted, CompletesWithin}
use Rattle.tsb_laws.proofs.safety.StretchLemmas.{dark_now, taken_before, IsSame, Goes, ticks, stays, goes, at_next}
use Rattle.tsb_laws.proofs.safety.EnabledLemmas.{callable_on}
use Rattle.tsb_laws.proofs.safety.DueLemmas.{largest_now, largest_more, count_run, clipped_at, dark_of, reverts_later, not_over_in_yellow, not_over_in_red_clear, not_lasted}
use Rattle.tsb_laws.proofs.safety.SideSoughtLemmas.{goes_to_other}
use Rattle.tsb_laws.proofs.safety.CrossingRingLemmas.{none_starts, begins_alone, begins_ending, starts_none, none_is_started, is_started_then, goes_on, is_over, side_stays, side_goes, commitment_stays, WaitsFor, clearance_of, revert_of, waits_for_one}

-- ## While the crossing is under way

-- a phase in service was so as the crossing began, and has cleared since, for as long as the plans in effect say at most
data Clears (plan : Plan) (base : List Input) (p : ℕ) (later : List Input) : Type 0 where
  in_yellow : in_service (interval (replay plan base) p) ≡ true → interval (replay plan (later ++ base)) p ≡ Yellow →
      (replay plan (later ++ base)).now ≤ (replay plan base).now + held_for (λ s. is_yellow (interval s p)) plan (later ++ base) →
      (replay plan (later ++ base)).now ≤ (replay plan base).now + largest (λ x. yellow_change x p) plan base later → Clears plan base p later
  in_red_clear : in_service (interval (replay plan base) p) ≡ true → interval (replay plan (later ++ base)) p ≡ RedClear →
      (replay plan (later ++ base)).now
      ≤ (replay plan base).now + 1 + largest (λ x. yellow_change x p) plan base later + held_for (λ s. is_red_clear (interval s p)) plan (later ++ base) →
      Clears plan base p later

record Crosses (plan : Plan) (base : List Input) (d n : ℕ) (later : List Input) : Type 0 where
  pub under_way : (replay plan (later ++ base)).rings.crossing ≡ Some d
  pub apart : (replay plan (later ++ base)).rings.side ≡ d → ⊥
  pub clears : (p : ℕ) → in_service (interval (replay plan (later ++ base)) p) ≡ true → Clears plan base p later
  pub commitment : (r : Ring) → (replay plan (later ++ base)).rings.commitment r ≡ (replay plan base).rings.commitment r
  pub reverts : (r : Ring) (c : ℕ) → (replay plan (later ++ base)).rings.commitment r ≡ Some c → (replay plan (later ++ base)).now
      ≤ (replay plan base).now + held_for (λ s. not (is_green (interval s c) || is_yellow (interval s c))) plan (later ++ base)
  pub early : (replay plan (later ++ base)).now < (replay plan base).now + suc n

-- it is under way, or has been completed
data Stage (plan : Plan) (base : List Input) (d n : ℕ) (later : List Input) : Type 0 where
  crosses : Crosses plan base d n later → Stage plan base d n later
  completed : IsCompleted plan base d (suc n) later → Stage plan base d n later

at_most_before : (plan : Plan) (base : List Input) (n : ℕ) (later : List Input) (i : Input) → TakesAtMost plan base n (i ∷ later) → TakesAtMost plan base n later
at_most_before plan base n later i x = record {
  clearance = λ p h.
      (let all = x.clearance p h in let y = largest_more (λ z. yellow_change z p) plan base later i in
      let w = largest_more (λ z. red_clear z p) plan base later i in omega (arith, all, y, w));
  revert = λ r c h. (let all = x.revert r c h in let v = largest_more (λ z. red_revert z c) plan base later i in omega (arith, all, v));
}

module _ (plan : Plan) (base : List Input) (d n : ℕ) (ok : IsConsistent plan) (few : plan.phase_count ≤ 16) where
  few_now : (is : List Input) → (replay plan is).plan.phase_count ≤ 16
  few_now is = let same = count_run plan is in omega (arith, same, few)

  -- what a crossing goes to is not in service
  is_red : (is : List Input) (r : Ring) (c : ℕ) → AreTaken plan is → (replay plan is).rings.crossing ≡ Some d → ((replay plan is).rings.side ≡ d → ⊥) →
      (replay plan is).rings.commitment r ≡ Some c → in_service (interval (replay plan is) c) ≡ false
  is_red is r c taken under_way apart e =
      elim (cases_Bool (in_service (interval (replay plan is) c))) [
        | inr h ↦ h
        | inl h ↦ absurd (apart (sym (sided.serves c h) ∙ sided.across d under_way r c e))
      ]
    where
      sided : IsSided (replay plan is).plan (interval (replay plan is)) (replay plan is).rings
      sided = sided_run plan is ok taken

  -- ## An input that is no tick

  clears_still : (i : Input) (later : List Input) (p : ℕ) → ticks_of (kind_of i) ≡ 0 →
      IsSame (replay plan (later ++ base)) (step (replay plan (later ++ base)) i) → Clears plan base p later → Clears plan base p (i ∷ later)
  clears_still i later p none same (in_yellow was e t below) =
      let now : interval (replay plan (i ∷ (later ++ base))) p ≡ Yellow = same.interval p ∙ e in
      let held : held_for (λ s. is_yellow (interval s p)) plan (i ∷ (later ++ base)) ≡ ticks_of (kind_of i) + held_for (λ s. is_yellow (interval s p)) plan (later ++ base) =
      held_on (λ s. is_yellow (interval s p)) plan i (later ++ base) (rw now refl) (rw e refl) in
      let clock : (replay plan (i ∷ (later ++ base))).now ≡ (replay plan (later ++ base)).now = same.now in
      let more = largest_more (λ x. yellow_change x p) plan base later i in
      in_yellow was now (omega (arith, none, held, clock, t)) (omega (arith, clock, more, below))
  clears_still i later p none same (in_red_clear was e t) =
      let now : interval (replay plan (i ∷ (later ++ base))) p ≡ RedClear = same.interval p ∙ e in
      let held : held_for (λ s. is_red_clear (interval s p)) plan (i ∷ (later ++ base)) ≡ ticks_of (kind_of i) + held_for (λ s. is_red_clear (interval s p)) plan (later ++ base) =
      held_on (λ s. is_red_clear (interval s p)) plan i (later ++ base) (rw now refl) (rw e refl) in
      let clock : (replay plan (i ∷ (later ++ base))).now ≡ (replay plan (later ++ base)).now = same.now in
      let more = largest_more (λ x. yellow_change x p) plan base later i in
      in_red_clear was now (omega (arith, none, held, clock, more, t))

  -- red revert goes on
  reverts_on : (i : Input) (later : List Input) (r : Ring) (c : ℕ) → AreTaken plan (i ∷ (later ++ base)) → Crosses plan base d n later →
      (replay plan (i ∷ (later ++ base))).rings.crossing ≡ Some d → ((replay plan (i ∷ (later ++ base))).rings.side ≡ d → ⊥) →
      (replay plan (later ++ base)).rings.commitment r ≡ Some c → (replay plan (i ∷ (later ++ base))).rings.commitment r ≡ Some c →
      held_for (λ s. not (is_green (interval s c) || is_yellow (interval s c))) plan (i ∷ (later ++ base))
      ≡ ticks_of (kind_of i) + held_for (λ s. not (is_green (interval s c) || is_yellow (interval s c))) plan (later ++ base)
  reverts_on i later r c taken was way apart before now =
      held_on (λ s. not (is_green (interval s c) || is_yellow (interval s c))) plan i (later ++ base)
      (dark_of (interval (replay plan (i ∷ (later ++ base))) c) (is_red (i ∷ (later ++ base)) r c taken way apart now))
      (dark_of (interval (replay plan (later ++ base)) c) (is_red (later ++ base) r c taken.0 was.under_way was.apart before))

  still : (i : Input) (later : List Input) → AreTaken plan (i ∷ (later ++ base)) → ticks_of (kind_of i) ≡ 0 →
      IsSame (replay plan (later ++ base)) (step (replay plan (later ++ base)) i) → Crosses plan base d n later → Crosses plan base d n (i ∷ later)
  still i later taken none same was =
      let clock : (replay plan (i ∷ (later ++ base))).now ≡ (replay plan (later ++ base)).now = same.now in
      let way : (replay plan (i ∷ (later ++ base))).rings.crossing ≡ Some d = same.crossing ∙ was.under_way in
      let early = was.early in
      record {
        under_way = way;
        apart = λ h. was.apart (sym same.side ∙ h);
        clears = λ p h. clears_still i later p none same (was.clears p (ap in_service (sym (same.interval p)) ∙ h));
        commitment = λ r. same.commitment r ∙ was.commitment r;
        reverts = λ r c e.
            (let before : (replay plan (later ++ base)).rings.commitment r ≡ Some c = sym (same.commitment r) ∙ e in
            let held = reverts_on i later r c taken was way (λ h. was.apart (sym same.side ∙ h)) before e in
            let t = was.reverts r c before in omega (arith, clock, held, none, t));
        early = omega (arith, clock, early);
      }

  -- ## A tick

  -- what the rings do in a tick in which the crossing is not completed
  record Waiting (row : Row) (later : List Input) : Type 0 where
    pub way : (replay plan (Tick row ∷ (later ++ base))).rings.crossing ≡ Some d
    pub side : (replay plan (Tick row ∷ (later ++ base))).rings.side ≡ (replay plan (later ++ base)).rings.side
    pub commitment : (r : Ring) → (replay plan (Tick row ∷ (later ++ base))).rings.commitment r ≡ (replay plan (later ++ base)).rings.commitment r
    pub no_start : (p : ℕ) → is_started (moves (replay plan (later ++ base)) row) p ≡ false
    pub stays : (p : ℕ) → in_service (interval (replay plan (Tick row ∷ (later ++ base))) p) ≡ true →
        (in_service (interval (replay plan (later ++ base)) p) ≡ true) × (is_cleared (moves (replay plan (later ++ base)) row) p ≡ false)
    pub late : ((p : ℕ) × (in_service (interval (replay plan (later ++ base)) p) ≡ true) × (over (replay plan (later ++ base)) p ≡ false))
        ⊎ ((r : Ring) × (c : ℕ) × ((replay plan (later ++ base)).rings.commitment r ≡ Some c) × (reverted (replay plan (later ++ base)) c ≡ false))

  waiting : (row : Row) (later : List Input) → AreTaken plan (later ++ base) → (replay plan (later ++ base)).trip ≡ None →
      has_no_trails (replay plan (later ++ base)).plan ≡ true → Crosses plan base d n later →
      gives_up (replay plan (later ++ base)) row ≡ false →
      completes (replay plan (later ++ base)).plan (replay plan (later ++ base)).rings (rings_given (replay plan (later ++ base)) row) ≡ false → Waiting row later
  unfolding moves rings_given rings_next
  waiting row later taken dark free was none not_done = record {
    way = ap (λ (x : rings.State). x.crossing) (rings_moved s row dark none) ∙ goes_on s.plan s.rings (rings_given s row) (yellow_done s) even good.rings told d was.under_way not_done;
    side = ap (λ (x : rings.State). x.side) (rings_moved s row dark none) ∙ side_stays s.plan s.rings (rings_given s row) (yellow_done s) even good.rings told d was.under_way not_done;
    commitment = λ r. ap (λ (x : rings.State). x.commitment r) (rings_moved s row dark none)
        ∙ commitment_stays s.plan s.rings (rings_given s row) (yellow_done s) even good.rings told d was.under_way r not_done;
    no_start = λ p. none_is_started s.plan s.rings (rings_given s row) (yellow_done s) even good.rings told d was.under_way p not_done;
    stays = λ p h. stays_so p (ap in_service (sym (at_next s row p dark)) ∙ h);
    late = late (waits_for_one s.plan s.rings (rings_given s row) (yellow_done s) even good.rings told d was.under_way not_done);
  }
    where
      s : State
      s = replay plan (later ++ base)

      good : IsGood (replay plan (later ++ base))
      good = good_run plan (later ++ base) ok taken

      even : IsSymmetric s.plan
      even = symmetric s.plan good.plan.rules

      told : IsGiven s.plan (rings_given s row)
      told = given s row good

      starts_not : (p : ℕ) → starting s.plan s.rings (rings_given s row) Ring1 ≡ Some p → ⊥
      starts_not p e =
          let none : starting s.plan s.rings (rings_given s row) Ring1 ≡ None =
          starts_none s.plan s.rings (rings_given s row) (yellow_done s) even good.rings told d was.under_way Ring1 not_done in
          let bad : None ≡ Some p = sym none ∙ e in absurd cc

      starts_not_2 : (p : ℕ) → starting s.plan s.rings (rings_given s row) Ring2 ≡ Some p → ⊥
      starts_not_2 p e =
          let none : starting s.plan s.rings (rings_given s row) Ring2 ≡ None =
          starts_none s.plan s.rings (rings_given s row) (yellow_done s) even good.rings told d was.under_way Ring2 not_done in
          let bad : None ≡ Some p = sym none ∙ e in absurd cc

      stays_so : (p : ℕ) → in_service (interval (next s row) p) ≡ true → (in_service (interval s p) ≡ true) × (is_cleared (moves s row) p ≡ false)
      stays_so p h =
          elim (after_tick s.plan s.rings (rings_given s row) (yellow_done s) even good.rings told p (sym (ap (λ (f : ℕ → Interval). in_service (f p)) (intervals_after s row)) ∙ h)) [
            | inl k ↦ elim k [ inl one ↦ absurd (starts_not p one) | inr two ↦ absurd (starts_not_2 p two) ]
            | inr k ↦ (k.was, k.kept)
          ]

      late : WaitsFor s.plan s.rings (rings_given s row) (yellow_done s) even good.rings told d was.under_way →
          ((p : ℕ) × (in_service (interval (replay plan (later ++ base)) p) ≡ true) × (over (replay plan (later ++ base)) p ≡ false))
          ⊎ ((r : Ring) × (c : ℕ) × ((replay plan (later ++ base)).rings.commitment r ≡ Some c) × (reverted (replay plan (later ++ base)) c ≡ false))
      late (clearance_of p h k) = inl (p, h, sym (told_over s row p free (few_now (later ++ base)) (good.rings.listed p h)) ∙ k)
      late (revert_of r c e k) = inr (r, c, e, sym (clipped_at (reverted s) s.plan c (few_now (later ++ base)) (good.rings.owned r c e).1) ∙ k)

  -- a phase goes on clearing
  clears_on : (row : Row) (later : List Input) (p : ℕ) → AreTaken plan (later ++ base) → (replay plan (later ++ base)).trip ≡ None →
      is_started (moves (replay plan (later ++ base)) row) p ≡ false → is_cleared (moves (replay plan (later ++ base)) row) p ≡ false →
      Clears plan base p later → Clears plan base p (Tick row ∷ later)
  clears_on row later p taken dark no_start no_clear (in_yellow was e t below) = go (yellow_is_done s.plan p (phase_read s p)) refl
    where
      s : State
      s = replay plan (later ++ base)

      clock : (replay plan (Tick row ∷ (later ++ base))).now ≡ (replay plan (later ++ base)).now + 1
      clock = one_later s row

      more : largest (λ x. yellow_change x p) plan base later ≤ largest (λ x. yellow_change x p) plan base (Tick row ∷ later)
      more = largest_more (λ x. yellow_change x p) plan base later (Tick row)

      told : TellsTime plan (later ++ base) p
      told = timers_tell_time plan (later ++ base) ok taken dark p

      go : (b : Bool) → yellow_is_done s.plan p (phase_read s p) ≡ b → Clears plan base p (Tick row ∷ later)
      go false b =
          let now : interval (replay plan (Tick row ∷ (later ++ base))) p ≡ Yellow = at_next s row p dark ∙ rw (no_start, e, no_clear, rw e at b) refl in
          let held : held_for (λ s. is_yellow (interval s p)) plan (Tick row ∷ (later ++ base)) ≡ 1 + held_for (λ s. is_yellow (interval s p)) plan (later ++ base) =
          held_on (λ s. is_yellow (interval s p)) plan (Tick row) (later ++ base) (rw now refl) (rw e refl) in
          let soon : held_for (λ s. is_yellow (interval s p)) plan (later ++ base) + 1 < yellow_change s.plan p =
          not_lasted (s.phases p).timer _ (yellow_change s.plan p) (told.yellow e) (rw e at b) in
          let most = largest_now (λ x. yellow_change x p) plan base later in
          in_yellow was now (omega (arith, clock, held, t)) (omega (arith, clock, t, soon, most, more))
      go true b =
          let now : interval (replay plan (Tick row ∷ (later ++ base))) p ≡ RedClear = at_next s row p dark ∙ rw (no_start, e, no_clear, rw e at b) refl in
          in_red_clear was now (omega (arith, clock, below, more))
  clears_on row later p taken dark no_start no_clear (in_red_clear was e t) =
      let now : interval (replay plan (Tick row ∷ (later ++ base))) p ≡ RedClear = at_next (replay plan (later ++ base)) row p dark ∙ rw (no_start, e, no_clear) refl in
      let held : held_for (λ s. is_red_clear (interval s p)) plan (Tick row ∷ (later ++ base)) ≡ 1 + held_for (λ s. is_red_clear (interval s p)) plan (later ++ base) =
      held_on (λ s. is_red_clear (interval s p)) plan (Tick row) (later ++ base) (rw now refl) (rw e refl) in
      let clock : (replay plan (Tick row ∷ (later ++ base))).now ≡ (replay plan (later ++ base)).now + 1 = one_later (replay plan (later ++ base)) row in
      let more = largest_more (λ x. yellow_change x p) plan base later (Tick row) in
      in_red_clear was now (omega (arith, clock, held, more, t))

  -- while it is not over there is time left
  clears_early : (later : List Input) (p : ℕ) → AreTaken plan (later ++ base) → (replay plan (later ++ base)).trip ≡ None → TakesAtMost plan base n later →
      over (replay plan (later ++ base)) p ≡ false → Clears plan base p later → (replay plan (later ++ base)).now + 1 < (replay plan base).now + suc n
  clears_early later p taken dark limit h (in_yellow was e t below) = go (yellow_is_done s.plan p (phase_read s p)) refl
    where
      s : State
      s = replay plan (later ++ base)

      all : largest (λ x. yellow_change x p) plan base later + largest (λ x. red_clear x p) plan base later ≤ n
      all = limit.clearance p was

      go : (b : Bool) → yellow_is_done s.plan p (phase_read s p) ≡ b → (replay plan (later ++ base)).now + 1 < (replay plan base).now + suc n
      go false b =
          let soon : held_for (λ s. is_yellow (interval s p)) plan (later ++ base) + 1 < yellow_change s.plan p =
          not_lasted (s.phases p).timer _ (yellow_change s.plan p) ((timers_tell_time plan (later ++ base) ok taken dark p).yellow e) (rw e at b) in
          let most = largest_now (λ x. yellow_change x p) plan base later in
          omega (arith, t, soon, most, all)
      go true b =
          let some : 1 ≤ red_clear s.plan p = not_over_in_yellow s p e h b in
          let most = largest_now (λ x. red_clear x p) plan base later in
          omega (arith, below, some, most, all)
  clears_early later p taken dark limit h (in_red_clear was e t) =
      let soon : held_for (λ s. is_red_clear (interval s p)) plan (later ++ base) + 1 < red_clear (replay plan (later ++ base)).plan p =
      not_lasted ((replay plan (later ++ base)).phases p).timer _ (red_clear (replay plan (later ++ base)).plan p)
      ((timers_tell_time plan (later ++ base) ok taken dark p).red_clear e) (not_over_in_red_clear (replay plan (later ++ base)) p e h) in
      let most = largest_now (λ x. red_clear x p) plan base later in
      let all = limit.clearance p was in
      omega (arith, t, soon, most, all)

  reverts_early : (later : List Input) (r : Ring) (c : ℕ) → AreTaken plan (later ++ base) → (replay plan (later ++ base)).trip ≡ None → TakesAtMost plan base n later →
      Crosses plan base d n later → (replay plan (later ++ base)).rings.commitment r ≡ Some c → reverted (replay plan (later ++ base)) c ≡ false →
      (replay plan (later ++ base)).now + 1 < (replay plan base).now + suc n
  reverts_early later r c taken dark limit was e h =
      let soon = reverts_later plan (later ++ base) c ok taken dark (is_red (later ++ base) r c taken was.under_way was.apart e) h in
      let most = largest_now (λ x. red_revert x c) plan base later in
      let all = limit.revert r c (sym (was.commitment r) ∙ e) in
      let t = was.reverts r c e in
      omega (arith, soon, most, all, t)

  waits_on : (row : Row) (later : List Input) → AreTaken plan (Tick row ∷ (later ++ base)) → (replay plan (later ++ base)).trip ≡ None →
      TakesAtMost plan base n later → Crosses plan base d n later → Waiting row later → Crosses plan base d n (Tick row ∷ later)
  waits_on row later taken dark limit was it =
      let clock : (replay plan (Tick row ∷ (later ++ base))).now ≡ (replay plan (later ++ base)).now + 1 = one_later (replay plan (later ++ base)) row in
      record {
        under_way = it.way;
        apart = λ h. was.apart (sym it.side ∙ h);
        clears = λ p h. clears_on row later p taken.0 dark (it.no_start p) (it.stays p h).1 (was.clears p (it.stays p h).0);
        commitment = λ r. it.commitment r ∙ was.commitment r;
        reverts = λ r c e.
            (let before : (replay plan (later ++ base)).rings.commitment r ≡ Some c = sym (it.commitment r) ∙ e in
            let held : held_for (λ s. not (is_green (interval s c) || is_yellow (interval s c))) plan (Tick row ∷ (later ++ base))
            ≡ 1 + held_for (λ s. not (is_green (interval s c) || is_yellow (interval s c))) plan (later ++ base) =
            reverts_on (Tick row) later r c taken was it.way (λ h. was.apart (sym it.side ∙ h)) before e in
            let t = was.reverts r c before in omega (arith, clock, held, t));
        early = (let soon = early it.late in omega (arith, clock, soon));
      }
    where
      early : ((p : ℕ) × (in_service (interval (replay plan (later ++ base)) p) ≡ true) × (over (replay plan (later ++ base)) p ≡ false))
          ⊎ ((r : Ring) × (c : ℕ) × ((replay plan (later ++ base)).rings.commitment r ≡ Some c) × (reverted (replay plan (later ++ base)) c ≡ false)) →
          (replay plan (later ++ base)).now + 1 < (replay plan base).now + suc n
      early (inl x) = clears_early later x.0 taken.0 dark limit x.2 (was.clears x.0 x.1)
      early (inr x) = reverts_early later x.0 x.1 taken.0 dark limit was x.2 x.3

  -- the tick in which it is completed
  completes_now : (row : Row) (later : List Input) → AreTaken plan (later ++ base) → (replay plan (later ++ base)).trip ≡ None → Crosses plan base d n later →
      gives_up (replay plan (later ++ base)) row ≡ false →
      completes (replay plan (later ++ base)).plan (replay plan (later ++ base)).rings (rings_given (replay plan (later ++ base)) row) ≡ true →
      IsCompleted plan base d (suc n) (Tick row ∷ later)
  unfolding moves rings_given rings_next
  completes_now row later taken dark was none now_done = record {
    older = later;
    next = row;
    newer = [];
    parts = refl;
    under_way = was.under_way;
    completed = ap (λ (x : rings.State). x.crossing) (rings_moved s row dark none) ∙ is_over s.plan s.rings (rings_given s row) (yellow_done s) even good.rings told d was.under_way now_done;
    side = ap (λ (x : rings.State). x.side) (rings_moved s row dark none) ∙ side_goes s.plan s.rings (rings_given s row) (yellow_done s) even good.rings told d was.under_way now_done;
    started = λ r c e. starts r c (was.commitment r ∙ e);
    in_time = (let clock : (replay plan (Tick row ∷ (later ++ base))).now ≡ (replay plan (later ++ base)).now + 1 = one_later s row in
        let early = was.early in omega (arith, clock, early));
  }
    where
      s : State
      s = replay plan (later ++ base)

      good : IsGood (replay plan (later ++ base))
      good = good_run plan (later ++ base) ok taken

      even : IsSymmetric s.plan
      even = symmetric s.plan good.plan.rules

      told : IsGiven s.plan (rings_given s row)
      told = given s row good

      starts : (r : Ring) (c : ℕ) → (replay plan (later ++ base)).rings.commitment r ≡ Some c → StartsGreen plan (later ++ base) row c
      starts r c e =
          let on : is_started (moves s row) c ≡ true = is_started_then s.plan s.rings (rings_given s row) (yellow_done s) even good.rings told d was.under_way r c now_done e in
          record {
            was_not = λ h. false≢true (sym (is_red (later ++ base) r c taken was.under_way was.apart e) ∙ ap in_service h);
            starts = at_next s row c dark ∙ rw on refl;
          }

  one_more : (i : Input) (later : List Input) → IsCompleted plan base d (suc n) later → IsCompleted plan base d (suc n) (i ∷ later)
  one_more i later x = record {
    older = x.older;
    next = x.next;
    newer = i ∷ x.newer;
    parts = ap (λ (l : List Input). i ∷ l) x.parts;
    under_way = x.under_way;
    completed = x.completed;
    side = x.side;
    started = x.started;
    in_time = x.in_time;
  }

  one_on : (i : Input) (later : List Input) → AreTaken plan (i ∷ (later ++ base)) → (replay plan (later ++ base)).trip ≡ None → TakesAtMost plan base n later →
      has_no_trails (replay plan (later ++ base)).plan ≡ true →
      is_choosing (replay plan (i ∷ (later ++ base))) ≡ false → Stage plan base d n later → Stage plan base d n (i ∷ later)
  one_on i later taken dark limit free none (completed x) = completed (one_more i later x)
  one_on i later taken dark limit free none (crosses was) = go (goes (replay plan (later ++ base)) i dark)
    where
      tick : (row : Row) → AreTaken plan (Tick row ∷ (later ++ base)) → is_choosing (replay plan (Tick row ∷ (later ++ base))) ≡ false →
          Stage plan base d n (Tick row ∷ later)
      tick row there chooses_not =
          elim (cases_Bool (completes (replay plan (later ++ base)).plan (replay plan (later ++ base)).rings (rings_given (replay plan (later ++ base)) row))) [
            | inl h ↦ completed (completes_now row later there.0 dark was (gives_none_then (replay plan (later ++ base)) row dark chooses_not) h)
            | inr h ↦ crosses (waits_on row later there dark limit was
                (waiting row later there.0 dark free was (gives_none_then (replay plan (later ++ base)) row dark chooses_not) h))
          ]

      go : Goes (replay plan (later ++ base)) i → Stage plan base d n (i ∷ later)
      go (ticks row e) =
          subst (λ (j : Input). Stage plan base d n (j ∷ later)) (sym e)
          (tick row (subst (λ (j : Input). AreTaken plan (j ∷ (later ++ base))) e taken)
          (subst (λ (j : Input). is_choosing (replay plan (j ∷ (later ++ base))) ≡ false) e none))
      go (stays no_tick same) = crosses (still i later taken no_tick same was)

  stage : (later : List Input) → AreTaken plan (later ++ base) → IsUntripped plan base later → NoneChooses plan base later → NoneTrails plan base later →
      TakesAtMost plan base n later → Stage plan base d n [] → Stage plan base d n later
  stage [] taken dark none free limit first = first
  stage (i ∷ later) taken dark none free limit first =
      let free_before : NoneTrails plan base later = untrailed_before plan base i later free in
      let both = and_parts (not (is_choosing (replay plan (i ∷ (later ++ base))))) (has_held_since (λ s. not (is_choosing s)) plan base later) none in
      one_on i later taken (dark_now plan base later dark.0) (at_most_before plan base n later i limit)
      (untrailed_now plan base later free_before) (not-true (is_choosing (replay plan (i ∷ (later ++ base)))) both.0)
      (stage later taken.0 dark.0 both.1 free_before (at_most_before plan base n later i limit) first)

-- ## As it begins

record Begun (s : State) (row : Row) (d : ℕ) : Type 0 where
  pub apart : (step s (Tick row)).rings.side ≡ d → ⊥
  pub clears : (p : ℕ) → in_service (interval (next s row) p) ≡ true → is_green (interval (next s row) p) ≡ true → ⊥

begun : (s : State) (row : Row) (d : ℕ) → IsGood s → s.trip ≡ None → s.rings.crossing ≡ None → (step s (Tick row)).rings.crossing ≡ Some d → Begun s row d
unfolding moves rings_given rings_next new_crossing new_side completes
begun s row d good dark out h = record {
  apart = λ k. goes_to_other s.plan s.rings (rings_given s row) good.plan.rules (callable_on s row) (given s row good).pairwise now_begins
      (same_side ∙ sym (sym side_then ∙ k));
  clears = λ p serves green. ends p serves green;
}
  where
    -- a crossing that is under way after the tick is what the moves left
    moved : (step s (Tick row)).rings ≡ (after_moves s row).rings
    moved = rings_then s row dark ∙ crossing_by_moves s row d (sym (ap (λ (x : rings.State). x.crossing) (rings_then s row dark)) ∙ h)

    crossing_then : new_crossing s.plan s.rings (rings_given s row) ≡ Some d
    crossing_then = sym (ap (λ (x : rings.State). x.crossing) moved) ∙ h

    now_begins : begins s.plan s.rings (rings_given s row) ≡ true
    now_begins =
        elim (cases_Bool (begins s.plan s.rings (rings_given s row))) [
          | inl b ↦ b
          | inr b ↦ (let bad : None ≡ Some d = rw (b, out) at crossing_then in absurd cc)
        ]

    same_side : target_side s.plan s.rings (rings_given s row) ≡ d
    same_side = let same : Some (target_side s.plan s.rings (rings_given s row)) ≡ Some d = rw now_begins at crossing_then in cc

    side_then : (step s (Tick row)).rings.side ≡ s.rings.side
    side_then = ap (λ (x : rings.State). x.side) moved ∙ rw out refl

    starts_none_in : (r : Ring) (p : ℕ) → starting s.plan s.rings (rings_given s row) r ≡ Some p → ⊥
    starts_none_in r p e =
        let none : starting s.plan s.rings (rings_given s row) r ≡ None = begins_alone s.plan s.rings (rings_given s row) r now_begins in
        let bad : None ≡ Some p = sym none ∙ e in absurd cc

    is_not_started : (p : ℕ) → is_started (moves s row) p ≡ false
    is_not_started p =
        none_starts s.plan s.rings (rings_given s row) p (begins_alone s.plan s.rings (rings_given s row) Ring1 now_begins)
        (begins_alone s.plan s.rings (rings_given s row) Ring2 now_begins)

    ends : (p : ℕ) → in_service (interval (next s row) p) ≡ true → is_green (interval (next s row) p) ≡ true → ⊥
    ends p serves green =
        elim (after_tick s.plan s.rings (rings_given s row) (yellow_done s) (symmetric s.plan good.plan.rules) good.rings (given s row good) p (sym (ap (λ (f : ℕ → Interval). in_service (f p)) (intervals_after s row)) ∙ serves)) [
          | inl k ↦ elim k [ inl one ↦ starts_none_in Ring1 p one | inr two ↦ starts_none_in Ring2 p two ]
          | inr k ↦ by (interval s p) (is_cleared (moves s row) p) (yellow_is_done s.plan p (phase_read s p)) refl refl refl k.was
        ]
      where
        by : (i : Interval) (c b : Bool) → interval s p ≡ i → is_cleared (moves s row) p ≡ c → yellow_is_done s.plan p (phase_read s p) ≡ b → in_service (interval s p) ≡ true → ⊥
        by Red c b e l m was = false≢true (rw e at was)
        by Green c b e l m was =
            let ended : is_ended (moves s row) p ≡ true =
            begins_ending s.plan s.rings (rings_given s row) (good.rings.ringed p was).0 p good.rings (good.rings.ringed p was).1 was (rw e refl) now_begins in
            false≢true (rw (is_not_started p, e, ended) at green)
        by Yellow true b e l m was = false≢true (rw (is_not_started p, e, l) at green)
        by Yellow false true e l m was = false≢true (rw (is_not_started p, e, l, rw e at m) at green)
        by Yellow false false e l m was = false≢true (rw (is_not_started p, e, l, rw e at m) at green)
        by RedClear true b e l m was = false≢true (rw (is_not_started p, e, l) at green)
        by RedClear false b e l m was = false≢true (rw (is_not_started p, e, l) at green)

pub completes_in_time : (plan : Plan) (is later : List Input) (row : Row) (d n : ℕ) → IsConsistent plan → plan.phase_count ≤ 16 →
    AreTaken plan (later ++ (Tick row ∷ is)) → IsUntripped plan (Tick row ∷ is) later → NoneChooses plan (Tick row ∷ is) later →
    NoneTrails plan (Tick row ∷ is) later → BeginsCrossing plan is row d → TakesAtMost plan (Tick row ∷ is) n later → CompletesWithin plan (Tick row ∷ is) d (suc n) later
completes_in_time plan is later row d n ok few taken dark none free x limit =
    go (stage plan (Tick row ∷ is) d n ok few later taken dark none free limit (crosses first))
  where
    there : AreTaken plan (Tick row ∷ is)
    there = taken_before plan (Tick row ∷ is) later taken

    good : IsGood (replay plan is)
    good = good_run plan is ok there.0

    dark_first : (l : List Input) → IsUntripped plan (Tick row ∷ is) l → (replay plan (Tick row ∷ is)).trip ≡ None
    dark_first [] h = h
    dark_first (i ∷ l) h = dark_first l h.0

    dark_before_it : (replay plan is).trip ≡ None
    dark_before_it = dark_before (replay plan is) (Tick row) refl (dark_first later dark)

    it : Begun (replay plan is) row d
    it = begun (replay plan is) row d good dark_before_it x.none_before x.begins

    clears : (p : ℕ) → in_service (interval (replay plan (Tick row ∷ is)) p) ≡ true → Clears plan (Tick row ∷ is) p []
    clears p h = by (interval (replay plan (Tick row ∷ is)) p) refl
      where
        same : interval (replay plan (Tick row ∷ is)) p ≡ interval (next (replay plan is) row) p
        same = at_next (replay plan is) row p dark_before_it

        by : (i : Interval) → interval (replay plan (Tick row ∷ is)) p ≡ i → Clears plan (Tick row ∷ is) p []
        by Red e = absurd (false≢true (rw e at h))
        by Green e = absurd (it.clears p (ap in_service (sym same) ∙ h) (ap is_green (sym same ∙ e)))
        by Yellow e = in_yellow h e (omega arith) (omega arith)
        by RedClear e = in_red_clear h e (omega arith)

    first : Crosses plan (Tick row ∷ is) d n []
    first = record {
      under_way = x.begins;
      apart = it.apart;
      clears = clears;
      commitment = λ r. refl;
      reverts = λ r c e. omega arith;
      early = omega arith;
    }

    go : Stage plan (Tick row ∷ is) d n later → CompletesWithin plan (Tick row ∷ is) d (suc n) later
    go (crosses w) = inr w.early
    go (completed y) = inl y
