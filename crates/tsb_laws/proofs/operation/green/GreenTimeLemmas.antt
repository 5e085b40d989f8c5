-- The timers of a green tell for how many ticks of it a test has held, and its latches what has happened in it, through
-- inputs of every kind. For `greens_end_for_a_reason` and `maximums_move_by_steps`.
use Rattle.std.proofs.Common.{suc, ◌≡◌, ℕ, ◌+◌, ◌≤◌, Bool, true, false, not, ◌&&◌, ◌||◌, if◌then◌else◌, List, [], ◌∷◌, Option, Some, None, is_some, is_none, refl, sym, ap, arith, ◌∙◌, inl, inr, ◌⊎◌}
use Rattle.std.proofs.lemmas.Bool.{cases_Bool, and_parts, or_cases, leb-true, true≢false, false≢true}
use Rattle.tsb_step.specs.tsb_cells.declared.timer.Timer.{Timer}
use Rattle.tsb_step.specs.tsb_cells.declared.timer.Timer.TheVariants.{Off, On}
use Rattle.tsb_step.specs.tsb_cells.Timer.{advanced, started, has_reached}
use Rattle.tsb_step.specs.tsb_types.declared.row.Row.{Row}
use Rattle.tsb_step.specs.tsb_types.Clip.{clipped}
use Rattle.tsb_step.specs.tsb_types.Intervals.{is_green}
use Rattle.tsb_step.specs.tsb_types.Sets.{is_phase}
use Rattle.tsb_step.specs.tsb_plan.Plan.{Plan, disables_simultaneous_gap}
use Rattle.tsb_step.specs.tsb_plan.Running.{floating_time}
use Rattle.tsb_step.specs.tsb_calls.Memories.{has_output}
use Rattle.tsb_step.specs.tsb_phase.Phase.{Phase, Given, GreenHeld, at_power_up, as_read, held_of, none_held}
use Rattle.tsb_step.specs.tsb_phase.Green.{conflict_timer, reduction_timer, gap, initial_has_passed, gap_has_expired, has_reached_some, floats_off, forced_latch}
use Rattle.tsb_step.specs.tsb_phase.Next.{is_green_after, held_now}
use Rattle.tsb_step.specs.tsb_ring.Moves.{is_started, is_ended}
use Rattle.tsb_step.specs.declared.inputs.Input.{Input}
use Rattle.tsb_step.specs.declared.inputs.Input.TheVariants as inputs
use Rattle.tsb_step.specs.declared.inputs.Input.TheVariants.{Tick}
use Rattle.tsb_step.specs.State.{State, interval}
use Rattle.tsb_step.specs.Tick.{service, runs, forced, calls_given, conflict, phases_given, phase_read, moves, moved, next}
use Rattle.tsb_step.specs.Step.{step, kind_of}
use Rattle.tsb_step.specs.Runs.{replay, AreTaken}
use Rattle.tsb_step.specs.Past.{ticks_of}
use Rattle.tsb_step.specs.Laws.{IsConsistent}
use Rattle.tsb_step.specs.TimeLaws.{held_for, is_tick, is_reset, Rests}
use Rattle.tsb_step.proofs.ClearLemmas.{phases_then}
use Rattle.tsb_step.proofs.ClipLemmas.{clipped_holds}
use Rattle.tsb_step.proofs.GoodLemmas.{good_run}
use Rattle.tsb_step.proofs.LeaveLemmas.{others_leave}
use Rattle.tsb_step.proofs.RestLemmas.{rests_run}
use Rattle.tsb_step.proofs.TellLemmas.{is_in_green, starts_no_green, dark_before, reset_or_not, timers_tell_time}
use Rattle.tsb_step.proofs.YellowLemmas.{lasted_by}
use Rattle.tsb_step.proofs.tsb_rules.ConsistentLemmas.{is-off}
use Rattle.tsb_laws.specs.GreenEnds.{in_ticks, ticks_in_green, has_no_output, has_conflict, StandsInGreen, gap_now, GapExpires, HasGappedOut, HasFloated, keeps_force_off, IsForcedOff, HasBeenForcedOff}
use Rattle.tsb_laws.proofs.safety.StretchLemmas.{at_next}
use Rattle.tsb_laws.proofs.safety.CoordinationLemmas.{lit_latch}

-- ## Counting

ticks_on : (test : State → Input → Bool) (p : ℕ) (plan : Plan) (i : Input) (is : List Input) → is_green (interval (replay plan (i ∷ is)) p) ≡ true →
    test (replay plan is) i ≡ true → ticks_in_green test p plan (i ∷ is) ≡ ticks_of (kind_of i) + ticks_in_green test p plan is
ticks_on test p plan i is now held = rw (now, held) refl

passes_others : (test : State → Row → Bool) (s : State) (i : Input) → is_tick i ≡ false → in_ticks test s i ≡ true
passes_others test s (inputs.Tick row) t = absurd (true≢false t)
passes_others test s i t = refl

-- an input that is no tick takes no time
no_time : (i : Input) → is_tick i ≡ false → ticks_of (kind_of i) ≡ 0
no_time (inputs.Tick row) t = absurd (true≢false t)
no_time i t = refl

-- ## Timers

-- a timer began in the tick, or it runs on
data Since (before : Timer) (n : ℕ) : Type 0 where
  begins : n ≡ 0 → Since before n
  runs_on : (m : ℕ) → before ≡ On m → n ≡ m + 1 → Since before n

record RunsIn (timer : Phase → Timer) (test : State → Row → Bool) (s : State) (row : Row) (p n : ℕ) : Type 0 where
  green : is_green (interval (next s row) p) ≡ true
  held : test s row ≡ true
  since : Since (timer (s.phases p)) n

record TimesGreen (timer : Phase → Timer) (test : State → Row → Bool) (p : ℕ) : Type 0 where
  begins : timer at_power_up ≡ Off
  unforced : (x : Phase) (b : Bool) → timer (record x { forced = b }) ≡ timer x
  rests : (x : Phase) → Rests x → is_green x.interval ≡ false → timer x ≡ Off
  runs : (s : State) (row : Row) (n : ℕ) → timer ((next s row).phases p) ≡ On n → RunsIn timer test s row p n

module _ (timer : Phase → Timer) (test : State → Row → Bool) (p : ℕ) (times : TimesGreen timer test p) (plan : Plan) where
  -- an input that leaves the timer
  still_counted : (i : Input) (is : List Input) (n : ℕ) → is_tick i ≡ false →
      timer ((replay plan (i ∷ is)).phases p) ≡ timer ((replay plan is).phases p) →
      (timer ((replay plan is).phases p) ≡ On n → suc n ≤ ticks_in_green (in_ticks test) p plan is) →
      timer ((replay plan (i ∷ is)).phases p) ≡ On n → suc n ≤ ticks_in_green (in_ticks test) p plan (i ∷ is)
  still_counted i is n t same was h =
      elim (cases_Bool (is_green (interval (replay plan (i ∷ is)) p))) [
        | inr k ↦ (let bad : Off ≡ On n = sym (times.rests ((replay plan (i ∷ is)).phases p) (rests_run plan (i ∷ is) p) k) ∙ h in absurd cc)
        | inl k ↦ (let one : ticks_in_green (in_ticks test) p plan (i ∷ is) ≡ ticks_of (kind_of i) + ticks_in_green (in_ticks test) p plan is =
            ticks_on (in_ticks test) p plan i is k (passes_others test (replay plan is) i t) in
            let none : ticks_of (kind_of i) ≡ 0 = no_time i t in
            let before : suc n ≤ ticks_in_green (in_ticks test) p plan is = was (sym same ∙ h) in
            omega (arith, one, none, before))
      ]

  ticked_on : (row : Row) (is : List Input) (n : ℕ) → (replay plan is).trip ≡ None →
      ((m : ℕ) → timer ((replay plan is).phases p) ≡ On m → suc m ≤ ticks_in_green (in_ticks test) p plan is) →
      timer ((replay plan (Tick row ∷ is)).phases p) ≡ On n → suc n ≤ ticks_in_green (in_ticks test) p plan (Tick row ∷ is)
  ticked_on row is n dark was h =
      let it : RunsIn timer test (replay plan is) row p n =
      times.runs (replay plan is) row n (sym (ap (λ (f : ℕ → Phase). timer (f p)) (phases_then (replay plan is) row dark)) ∙ h) in
      let now : is_green (interval (replay plan (Tick row ∷ is)) p) ≡ true = ap is_green (at_next (replay plan is) row p dark) ∙ it.green in
      let one : ticks_in_green (in_ticks test) p plan (Tick row ∷ is) ≡ 1 + ticks_in_green (in_ticks test) p plan is =
      ticks_on (in_ticks test) p plan (Tick row) is now it.held in
      go one it.since
    where
      go : ticks_in_green (in_ticks test) p plan (Tick row ∷ is) ≡ 1 + ticks_in_green (in_ticks test) p plan is →
          Since (timer ((replay plan is).phases p)) n → suc n ≤ ticks_in_green (in_ticks test) p plan (Tick row ∷ is)
      go one (begins zero_is) = omega (arith, one, zero_is)
      go one (runs_on m e more) = let before : suc m ≤ ticks_in_green (in_ticks test) p plan is = was m e in omega (arith, one, more, before)

  counted : (is : List Input) (n : ℕ) → (replay plan is).trip ≡ None → timer ((replay plan is).phases p) ≡ On n →
      suc n ≤ ticks_in_green (in_ticks test) p plan is
  counted [] n dark h = let bad : Off ≡ On n = sym times.begins ∙ h in absurd cc
  counted (inputs.Tick row ∷ is) n dark h =
      let before : (replay plan is).trip ≡ None = dark_before (replay plan is) (Tick row) refl dark in
      ticked_on row is n before (λ m e. counted is m before e) h
  counted (inputs.Reset ∷ is) n dark h =
      elim (reset_or_not (replay plan is)) [
        | inl anew ↦ (let bad : Off ≡ On n = sym times.begins ∙ ap timer (sym (anew p)) ∙ h in absurd cc)
        | inr same ↦ still_counted inputs.Reset is n refl (ap (λ (s : State). timer (s.phases p)) same.0) (counted is n same.1) h
      ]
  counted (i ∷ is) n dark h =
      still_counted i is n refl
      (ap timer (others_leave (replay plan is) i p refl refl) ∙ times.unforced ((replay plan is).phases p) ((step (replay plan is) i).phases p).forced)
      (counted is n (dark_before (replay plan is) i refl dark)) h

-- ## The two timers of a green

and_false : (b : Bool) → (b && false) ≡ true → ⊥
and_false true e = false≢true e
and_false false e = false≢true e

-- Green after the tick
green_then : (s : State) (row : Row) (p : ℕ) → is_green_after (moved s row) p (phase_read s p) ≡ true → is_green (interval (next s row) p) ≡ true
green_then s row p h = go (is_started (moves s row) p) (is_ended (moves s row) p) (is_green (interval s p)) refl refl refl
  where
    go : (starts ends was : Bool) → is_started (moves s row) p ≡ starts → is_ended (moves s row) p ≡ ends → is_green (interval s p) ≡ was →
        is_green (interval (next s row) p) ≡ true
    go true ends was k l m = rw k refl
    go false true was k l m = absurd (and_false (is_green (interval s p)) (rw (k, l) at h))
    go false false true k l m = rw (k, is_in_green (interval s p) m, l) refl
    go false false false k l m = absurd (false≢true (rw (k, m) at h))

starts_as : (t : Timer) (n : ℕ) → started (advanced t) ≡ On n → Since t n
starts_as Off n h = let none : 0 ≡ n = cc in begins (sym none)
starts_as (On m) n h = let more : m + 1 ≡ n = cc in runs_on m refl (sym more)

begins_as : (t : Timer) (n : ℕ) → started Off ≡ On n → Since t n
begins_as t n h = let none : 0 ≡ n = cc in begins (sym none)

-- of what the tick takes as held: of a phase that starts, none
held_since : (timer : GreenHeld → Timer) (of : Phase → Timer) (s : State) (row : Row) (p n : ℕ) → timer none_held ≡ Off →
    timer (held_of (phase_read s p)) ≡ advanced (of (s.phases p)) → started (timer (held_now (moved s row) p (phase_read s p))) ≡ On n →
    Since (of (s.phases p)) n
held_since timer of s row p n none own h = go (is_started (moves s row) p) h
  where
    go : (b : Bool) → started (timer (if b then none_held else held_of (phase_read s p))) ≡ On n → Since (of (s.phases p)) n
    go true k = begins_as (of (s.phases p)) n (ap started (sym none) ∙ k)
    go false k = starts_as (of (s.phases p)) n (ap started (sym own) ∙ k)

when_green : (green test : Bool) (t : Timer) (n : ℕ) → (if green then (if test then Off else t) else Off) ≡ On n →
    (green ≡ true) × (test ≡ false) × (t ≡ On n)
when_green true true t n h = absurd cc
when_green true false t n h = (refl, refl, h)
when_green false test t n h = absurd cc

when_held : (green test : Bool) (t : Timer) (n : ℕ) → (if green then (if test then t else Off) else Off) ≡ On n →
    (green ≡ true) × (test ≡ true) × (t ≡ On n)
when_held true true t n h = (refl, refl, h)
when_held true false t n h = absurd cc
when_held false test t n h = absurd cc

-- what phase timing is told of one of 16 phases
told_output : (s : State) (row : Row) (p : ℕ) → is_phase p ≡ true → (phases_given s row).output p ≡ has_output s.plan (calls_given s row) p
unfolding phases_given
told_output s row p on = rw on refl

told_conflict : (s : State) (row : Row) (p : ℕ) → (phases_given s row).conflict p ≡ true → conflict s row p ≡ true
unfolding phases_given
told_conflict s row p h = clipped_holds (conflict s row) p h

times_passage : (p : ℕ) → is_phase p ≡ true → TimesGreen (λ x. x.passage) (has_no_output p) p
times_passage p on = record {
  begins = refl;
  unforced = λ x b. refl;
  rests = λ x r k. r.passage k;
  runs = λ s row n h.
      (let it = when_green (is_green_after (moved s row) p (phase_read s p)) ((phases_given s row).output p)
      (started (held_now (moved s row) p (phase_read s p)).passage) n h in
      record {
        green = green_then s row p it.0;
        held = ap not (sym (told_output s row p on) ∙ it.1);
        since = held_since (λ g. g.passage) (λ x. x.passage) s row p n refl refl it.2;
      });
}

times_conflict : (p : ℕ) → TimesGreen (λ x. x.conflict) (has_conflict p) p
times_conflict p = record {
  begins = refl;
  unforced = λ x b. refl;
  rests = λ x r k. r.conflict k;
  runs = λ s row n h.
      (let it = when_held (is_green_after (moved s row) p (phase_read s p)) ((phases_given s row).conflict p)
      (started (held_now (moved s row) p (phase_read s p)).conflict) n h in
      record {
        green = green_then s row p it.0;
        held = told_conflict s row p it.1;
        since = held_since (λ g. g.conflict) (λ x. x.conflict) s row p n refl refl it.2;
      });
}

-- a timer that has reached a time in a tick has run for it in the ticks before
reached_by : (t : Timer) (limit n : ℕ) → has_reached (started (advanced t)) limit ≡ true → ((m : ℕ) → t ≡ On m → suc m ≤ n) → limit ≤ n
reached_by Off limit n h few = let none : limit ≤ 0 = leb-true limit 0 h in omega (arith, none)
reached_by (On m) limit n h few =
    let reached : limit ≤ m + 1 = leb-true limit (m + 1) h in
    let long : suc m ≤ n = few m refl in
    omega (arith, reached, long)

reached_unless : (b : Bool) (t : Timer) (limit : ℕ) → has_reached (if b then Off else t) limit ≡ true → (b ≡ false) × (has_reached t limit ≡ true)
reached_unless true t limit h = absurd (false≢true h)
reached_unless false t limit h = (refl, h)

reached_while : (b : Bool) (t : Timer) (limit : ℕ) → has_reached (if b then t else Off) limit ≡ true → (b ≡ true) × (has_reached t limit ≡ true)
reached_while true t limit h = (refl, h)
reached_while false t limit h = absurd (false≢true h)

-- the gap of a phase has expired by its passage timer
pub expires : (plan : Plan) (p : ℕ) (is : List Input) (row : Row) → is_phase p ≡ true → (replay plan is).trip ≡ None →
    gap_has_expired (replay plan is).plan (phases_given (replay plan is) row) p (held_of (phase_read (replay plan is) p)) ≡ true → GapExpires plan p is row
expires plan p is row on dark h =
    let it = reached_unless ((phases_given (replay plan is) row).output p) (started (advanced ((replay plan is).phases p).passage)) (gap_now (replay plan is) row p) h in
    record {
      off = ap not (sym (told_output (replay plan is) row p on) ∙ it.0);
      long = reached_by ((replay plan is).phases p).passage (gap_now (replay plan is) row p) (ticks_in_green (in_ticks (has_no_output p)) p plan is) it.1
          (λ m e. counted (λ x. x.passage) (has_no_output p) p (times_passage p on) plan is m dark e);
    }

-- the conflict of a phase has lasted a time by its conflict timer
pub lasts : (plan : Plan) (p : ℕ) (is : List Input) (row : Row) (limit : ℕ) → (replay plan is).trip ≡ None →
    has_reached (conflict_timer (phases_given (replay plan is) row) p (held_of (phase_read (replay plan is) p))) limit ≡ true →
    (has_conflict p (replay plan is) row ≡ true) × (limit ≤ ticks_in_green (in_ticks (has_conflict p)) p plan is)
lasts plan p is row limit dark h =
    let it = reached_while ((phases_given (replay plan is) row).conflict p) (started (advanced ((replay plan is).phases p).conflict)) limit h in (
      told_conflict (replay plan is) row p it.0,
      reached_by ((replay plan is).phases p).conflict limit (ticks_in_green (in_ticks (has_conflict p)) p plan is) it.1
          (λ m e. counted (λ x. x.conflict) (has_conflict p) p (times_conflict p) plan is m dark e),
    )

-- ## Latches

-- what has happened in the green, or stands from before
record StandsIn (latch : Phase → Bool) (fact : List Input → Row → Type 0) (test : State → Input → Bool) (plan : Plan) (is : List Input) (row : Row) (p : ℕ) : Type 0 where
  green : is_green (interval (next (replay plan is) row) p) ≡ true
  held : test (replay plan is) (Tick row) ≡ true
  since : fact is row ⊎ (latch ((replay plan is).phases p) ≡ true)

record LatchesGreen (latch : Phase → Bool) (fact : List Input → Row → Type 0) (test : State → Input → Bool) (plan : Plan) (p : ℕ) : Type 0 where
  begins : latch at_power_up ≡ false
  rests : (x : Phase) → Rests x → is_green x.interval ≡ false → latch x ≡ false
  ticks : (is : List Input) (row : Row) → AreTaken plan is → (replay plan is).trip ≡ None → latch ((next (replay plan is) row).phases p) ≡ true →
      StandsIn latch fact test plan is row p
  others : (s : State) (i : Input) → is_tick i ≡ false → is_reset i ≡ false → latch ((step s i).phases p) ≡ true →
      (latch (s.phases p) ≡ true) × (test s i ≡ true)
  resets : (s : State) → test s inputs.Reset ≡ true

module _ (latch : Phase → Bool) (fact : List Input → Row → Type 0) (test : State → Input → Bool) (plan : Plan) (p : ℕ) (latches : LatchesGreen latch fact test plan p) where
  is_green_now : (is : List Input) → latch ((replay plan is).phases p) ≡ true → is_green (interval (replay plan is) p) ≡ true
  is_green_now is h =
      elim (cases_Bool (is_green (interval (replay plan is) p))) [
        | inl k ↦ k
        | inr k ↦ absurd (true≢false (sym h ∙ latches.rests ((replay plan is).phases p) (rests_run plan is p) k))
      ]

  stood_on : (i : Input) (is : List Input) → latch ((replay plan (i ∷ is)).phases p) ≡ true → test (replay plan is) i ≡ true →
      StandsInGreen fact test p plan is → StandsInGreen fact test p plan (i ∷ is)
  stood_on i is h held was = (is_green_now (i ∷ is) h, held, inr was)

  stood : (is : List Input) → AreTaken plan is → (replay plan is).trip ≡ None → latch ((replay plan is).phases p) ≡ true →
      StandsInGreen fact test p plan is
  stood [] taken dark h = absurd (false≢true (sym latches.begins ∙ h))
  stood (inputs.Tick row ∷ is) taken dark h =
      let before : (replay plan is).trip ≡ None = dark_before (replay plan is) (Tick row) refl dark in
      let it : StandsIn latch fact test plan is row p = latches.ticks is row taken.0 before
      (sym (ap (λ (f : ℕ → Phase). latch (f p)) (phases_then (replay plan is) row before)) ∙ h) in (
        is_green_now (Tick row ∷ is) h,
        it.held,
        elim it.since [
          | inl k ↦ inl k
          | inr k ↦ inr (stood is taken.0 before k)
        ],
      )
  stood (inputs.Reset ∷ is) taken dark h =
      elim (reset_or_not (replay plan is)) [
        | inl anew ↦ absurd (false≢true (sym latches.begins ∙ ap latch (sym (anew p)) ∙ h))
        | inr same ↦ stood_on inputs.Reset is h (latches.resets (replay plan is))
            (stood is taken.0 same.1 (ap (λ (s : State). latch (s.phases p)) (sym same.0) ∙ h))
      ]
  stood (i ∷ is) taken dark h =
      let it = latches.others (replay plan is) i refl refl h in
      stood_on i is h it.1 (stood is taken.0 (dark_before (replay plan is) i refl dark) it.0)

-- ## The latch of the gap

and_four : (a b c d : Bool) → (a && (b && (c && d))) ≡ true → (a ≡ true) × (b ≡ true) × (c ≡ true) × (d ≡ true)
and_four true true true true h = (refl, refl, refl, refl)
and_four true true true false h = absurd (false≢true h)
and_four true true false d h = absurd (false≢true h)
and_four true false c d h = absurd (false≢true h)
and_four false b c d h = absurd (false≢true h)

-- a phase that starts has no timer of a green, so its gap is found from none held
rests_as_none : (plan : Plan) (given : Given) (p : ℕ) (x : Phase) → x.conflict ≡ Off → x.reduction ≡ Off →
    reduction_timer plan given p (held_of (as_read x)) ≡ reduction_timer plan given p none_held
unfolding reduction_timer
rests_as_none plan given p x c r = rw (c, r) refl

module _ (plan : Plan) (p : ℕ) (ok : IsConsistent plan) (on : is_phase p ≡ true) where
  expires_held : (is : List Input) (row : Row) → AreTaken plan is → (replay plan is).trip ≡ None → (b : Bool) → is_started (moves (replay plan is) row) p ≡ b →
      gap_has_expired (replay plan is).plan (phases_given (replay plan is) row) p (if b then none_held else held_of (phase_read (replay plan is) p)) ≡ true →
      GapExpires plan p is row
  expires_held is row taken dark false e h = expires plan p is row on dark h
  expires_held is row taken dark true e h =
      let red : is_green (interval (replay plan is) p) ≡ false = starts_no_green (replay plan is) row p (good_run plan is ok taken) e in
      let rests : Rests ((replay plan is).phases p) = rests_run plan is p in
      let same : gap_now (replay plan is) row p
      ≡ gap (replay plan is).plan p (reduction_timer (replay plan is).plan (phases_given (replay plan is) row) p none_held) =
      ap (λ (t : Timer). gap (replay plan is).plan p t)
      (rests_as_none (replay plan is).plan (phases_given (replay plan is) row) p ((replay plan is).phases p) (rests.conflict red) (rests.reduction red)) in
      let it = reached_unless ((phases_given (replay plan is) row).output p) (started Off)
      (gap (replay plan is).plan p (reduction_timer (replay plan is).plan (phases_given (replay plan is) row) p none_held)) h in
      let none : gap (replay plan is).plan p (reduction_timer (replay plan is).plan (phases_given (replay plan is) row) p none_held) ≤ 0 =
      leb-true (gap (replay plan is).plan p (reduction_timer (replay plan is).plan (phases_given (replay plan is) row) p none_held)) 0 it.1 in
      record { off = ap not (sym (told_output (replay plan is) row p on) ∙ it.0); long = omega (arith, none, same) }

  latches_in_tick : (is : List Input) (row : Row) → AreTaken plan is → (replay plan is).trip ≡ None → ((next (replay plan is) row).phases p).gapped ≡ true →
      StandsIn (λ x. x.gapped) (GapExpires plan p) (in_ticks (has_conflict p)) plan is row p
  latches_in_tick is row taken dark h =
      let it = and_four (is_green_after (moved (replay plan is) row) p (phase_read (replay plan is) p)) (disables_simultaneous_gap (replay plan is).plan p)
      ((phases_given (replay plan is) row).conflict p)
      ((held_now (moved (replay plan is) row) p (phase_read (replay plan is) p)).gapped
      || (initial_has_passed (replay plan is).plan (phases_given (replay plan is) row) p (held_now (moved (replay plan is) row) p (phase_read (replay plan is) p))
      && gap_has_expired (replay plan is).plan (phases_given (replay plan is) row) p (held_now (moved (replay plan is) row) p (phase_read (replay plan is) p)))) h in
      record {
        green = green_then (replay plan is) row p it.0;
        held = told_conflict (replay plan is) row p it.2;
        since = from (is_started (moves (replay plan is) row) p) refl it.3;
      }
    where
      from : (b : Bool) → is_started (moves (replay plan is) row) p ≡ b →
          ((if b then none_held else held_of (phase_read (replay plan is) p)).gapped
          || (initial_has_passed (replay plan is).plan (phases_given (replay plan is) row) p (if b then none_held else held_of (phase_read (replay plan is) p))
          && gap_has_expired (replay plan is).plan (phases_given (replay plan is) row) p (if b then none_held else held_of (phase_read (replay plan is) p)))) ≡ true →
          GapExpires plan p is row ⊎ (((replay plan is).phases p).gapped ≡ true)
      from true e k =
          inl (expires_held is row taken dark true e
          (and_parts (initial_has_passed (replay plan is).plan (phases_given (replay plan is) row) p none_held)
          (gap_has_expired (replay plan is).plan (phases_given (replay plan is) row) p none_held) k).1)
      from false e k =
          elim (or_cases ((replay plan is).phases p).gapped
          (initial_has_passed (replay plan is).plan (phases_given (replay plan is) row) p (held_of (phase_read (replay plan is) p))
          && gap_has_expired (replay plan is).plan (phases_given (replay plan is) row) p (held_of (phase_read (replay plan is) p))) k) [
            | inl l ↦ inr l
            | inr l ↦ inl (expires_held is row taken dark false e
                (and_parts (initial_has_passed (replay plan is).plan (phases_given (replay plan is) row) p (held_of (phase_read (replay plan is) p)))
                (gap_has_expired (replay plan is).plan (phases_given (replay plan is) row) p (held_of (phase_read (replay plan is) p))) l).1)
          ]

  latches_gap : LatchesGreen (λ x. x.gapped) (GapExpires plan p) (in_ticks (has_conflict p)) plan p
  latches_gap = record {
    begins = refl;
    rests = λ x r k. r.gapped k;
    ticks = latches_in_tick;
    others = λ s i t r h. (sym (ap (λ (x : Phase). x.gapped) (others_leave s i p t r)) ∙ h, passes_others (has_conflict p) s i t);
    resets = λ s. refl;
  }

  pub gapped_out : (is : List Input) → AreTaken plan is → (replay plan is).trip ≡ None → ((replay plan is).phases p).gapped ≡ true → HasGappedOut plan p is
  gapped_out = stood (λ x. x.gapped) (GapExpires plan p) (in_ticks (has_conflict p)) plan p latches_gap

-- ## The latch of the force-off

-- what the latch asks for in a tick
pub record IsForced (s : State) (row : Row) (p : ℕ) : Type 0 where
  pub kept : keeps_force_off p s (Tick row) ≡ true
  pub conflict : has_conflict p s row ≡ true
  pub since : ((forced s p ≡ true) ⊎ (floats_off s.plan (phases_given s row) p (held_of (phase_read s p)) ≡ true)) ⊎ ((s.phases p).forced ≡ true)

pub forced_by : (s : State) (row : Row) (p : ℕ) → forced_latch s.plan (phases_given s row) p (held_of (phase_read s p)) ≡ true → IsForced s row p
unfolding phases_given
forced_by s row p h =
    let it = and_four (is_some (runs s)) (is_none (service s row)) (clipped (conflict s row) p) (clipped (forced s) p || (floats_off s.plan (phases_given s row) p (held_of (phase_read s p)) || (s.phases p).forced)) h in
    let apart : conflict s row p ≡ true = clipped_holds (conflict s row) p it.2 in
    let runs_now = it.0 in
    let alone = it.1 in
    record {
      kept = rw (runs_now, alone, apart) refl;
      conflict = apart;
      since = elim (or_cases (clipped (forced s) p) (floats_off s.plan (phases_given s row) p (held_of (phase_read s p)) || (s.phases p).forced) it.3) [
        | inl k ↦ inl (inl (clipped_holds (forced s) p k))
        | inr k ↦ elim (or_cases (floats_off s.plan (phases_given s row) p (held_of (phase_read s p))) (s.phases p).forced k) [
          | inl l ↦ inl (inr l)
          | inr l ↦ inr l
        ]
      ];
    }

-- a green that floating force-off ends has lasted its floating time
pub has_floated : (plan : Plan) (is : List Input) (row : Row) (p : ℕ) → IsConsistent plan → AreTaken plan is → (replay plan is).trip ≡ None →
    is_green (interval (replay plan is) p) ≡ true →
    floats_off (replay plan is).plan (phases_given (replay plan is) row) p (held_of (phase_read (replay plan is) p)) ≡ true → HasFloated plan p is
unfolding phases_given
has_floated plan is row p ok taken dark green h = go (floating_time (replay plan is).plan (runs (replay plan is)) p) refl h
  where
    told : ((replay plan is).phases p).timer ≡ On (held_for (λ s. is_green (interval s p)) plan is)
    told = (timers_tell_time plan is ok taken dark p).green (is_in_green (interval (replay plan is) p) green)

    go : (o : Option ℕ) → floating_time (replay plan is).plan (runs (replay plan is)) p ≡ o → has_reached_some (phase_read (replay plan is) p).timer o ≡ true →
        HasFloated plan p is
    go None e k = absurd (false≢true k)
    go (Some limit) e k = record {
      time = limit;
      floating = e;
      long = (let reached : limit ≤ held_for (λ s. is_green (interval s p)) plan is + 1 =
          lasted_by ((replay plan is).phases p).timer (held_for (λ s. is_green (interval s p)) plan is) limit told k in
          omega (arith, reached));
    }

pub forced_off_now : (plan : Plan) (is : List Input) (row : Row) (p : ℕ) → IsConsistent plan → AreTaken plan is → (replay plan is).trip ≡ None →
    is_green (interval (replay plan is) p) ≡ true →
    (forced (replay plan is) p ≡ true) ⊎ (floats_off (replay plan is).plan (phases_given (replay plan is) row) p (held_of (phase_read (replay plan is) p)) ≡ true) →
    IsForcedOff plan p is row
forced_off_now plan is row p ok taken dark green (inl k) = record { was_green = green; forced = inl k }
forced_off_now plan is row p ok taken dark green (inr k) = record { was_green = green; forced = inr (has_floated plan is row p ok taken dark green k) }

-- a latch after a tick is of a phase that was Green
was_green_then : (s : State) (row : Row) (p : ℕ) → is_green_after (moved s row) p (phase_read s p) ≡ true → is_started (moves s row) p ≡ false →
    is_green (interval s p) ≡ true
was_green_then s row p h k = go (is_green (interval s p)) refl
  where
    go : (b : Bool) → is_green (interval s p) ≡ b → is_green (interval s p) ≡ true
    go true e = e
    go false e = absurd (false≢true (rw (k, e) at h))

forced_in_tick : (plan : Plan) (p : ℕ) (is : List Input) (row : Row) → IsConsistent plan → AreTaken plan is → (replay plan is).trip ≡ None → ((next (replay plan is) row).phases p).forced ≡ true →
    StandsIn (λ x. x.forced) (IsForcedOff plan p) (keeps_force_off p) plan is row p
forced_in_tick plan p is row ok taken dark h =
    let both = and_parts (is_green_after (moved (replay plan is) row) p (phase_read (replay plan is) p))
    (not (is_started (moves (replay plan is) row) p) && forced_latch (replay plan is).plan (phases_given (replay plan is) row) p (held_of (phase_read (replay plan is) p))) h in
    let rest = and_parts (not (is_started (moves (replay plan is) row) p)) (forced_latch (replay plan is).plan (phases_given (replay plan is) row) p (held_of (phase_read (replay plan is) p))) both.1 in
    let it : IsForced (replay plan is) row p = forced_by (replay plan is) row p rest.1 in
    let was : is_green (interval (replay plan is) p) ≡ true =
    was_green_then (replay plan is) row p both.0 (is-off (is_started (moves (replay plan is) row) p) rest.0) in
    record {
      green = green_then (replay plan is) row p both.0;
      held = it.kept;
      since = elim it.since [
        | inl k ↦ inl (forced_off_now plan is row p ok taken dark was k)
        | inr k ↦ inr k
      ];
    }

forced_others : (s : State) (i : Input) (p : ℕ) → is_tick i ≡ false → is_reset i ≡ false → ((step s i).phases p).forced ≡ true →
    ((s.phases p).forced ≡ true) × (keeps_force_off p s i ≡ true)
unfolding step
forced_others s (inputs.Tick row) p t r h = absurd (true≢false t)
forced_others s inputs.Reset p t r h = absurd (true≢false r)
forced_others s (inputs.Pattern n) p t r h = absurd (false≢true h)
forced_others s (inputs.Fault lamp) p t r h = (sym (lit_latch s lamp p) ∙ h, refl)
forced_others s i p t r h = (h, refl)

latches_force_off : (plan : Plan) (p : ℕ) → IsConsistent plan → LatchesGreen (λ x. x.forced) (IsForcedOff plan p) (keeps_force_off p) plan p
latches_force_off plan p ok = record {
  begins = refl;
  rests = λ x r k. r.forced k;
  ticks = λ is row taken dark h. forced_in_tick plan p is row ok taken dark h;
  others = λ s i t r h. forced_others s i p t r h;
  resets = λ s. refl;
}

pub forced_off : (plan : Plan) (p : ℕ) → IsConsistent plan → (is : List Input) → AreTaken plan is → (replay plan is).trip ≡ None → ((replay plan is).phases p).forced ≡ true →
    HasBeenForcedOff plan p is
forced_off plan p ok = stood (λ x. x.forced) (IsForcedOff plan p) (keeps_force_off p) plan p (latches_force_off plan p ok)
