-- A start after a yellow waits out the red revert time: the timer is On from the tick in which the yellow ends.
use Rattle.std.proofs.Common.{◌≡◌, ℕ, ◌+◌, ◌≤◌, Bool, true, false, List, [], ◌∷◌, ◌++◌, None, refl, sym, ap, subst, ◌∙◌, inl, inr, ◌⊎◌, arith, append_assoc}
use Rattle.std.proofs.lemmas.Bool.{cases_Bool, leb-true, true≢false, false≢true}
use Rattle.tsb_step.specs.tsb_cells.declared.timer.Timer.TheVariants.{On}
use Rattle.tsb_step.specs.tsb_types.declared.interval.Interval.{Interval}
use Rattle.tsb_step.specs.tsb_types.declared.interval.Interval.TheVariants.{Red, Green, Yellow, RedClear}
use Rattle.tsb_step.specs.tsb_types.declared.row.Row.{Row}
use Rattle.tsb_step.specs.tsb_types.Intervals.{in_service}
use Rattle.tsb_step.specs.tsb_plan.Plan.{Plan, is_enabled, red_revert}
use Rattle.tsb_step.specs.tsb_phase.Phase.{Phase}
use Rattle.tsb_step.specs.tsb_phase.Ready.{yellow_is_done, red_revert_passed}
use Rattle.tsb_step.specs.tsb_ring.Moves.{is_ended, is_cleared, is_started}
use Rattle.tsb_step.specs.declared.inputs.Input.{Input}
use Rattle.tsb_step.specs.declared.inputs.Input.TheVariants as inputs
use Rattle.tsb_step.specs.declared.inputs.Input.TheVariants.{Tick}
use Rattle.tsb_step.specs.State.{State, interval}
use Rattle.tsb_step.specs.Tick.{phase_read, moves, over, reverted, next}
use Rattle.tsb_step.specs.Signs.{display}
use Rattle.tsb_step.specs.Step.{step}
use Rattle.tsb_step.specs.Runs.{replay, AreTaken}
use Rattle.tsb_step.specs.Laws.{IsConsistent}
use Rattle.tsb_step.specs.TimeLaws.{is_tick, is_reset}
use Rattle.tsb_step.proofs.ClearLemmas.{phases_then, one_later}
use Rattle.tsb_step.proofs.LeaveLemmas.{others_leave}
use Rattle.tsb_step.proofs.TimerLemmas.{is_shown}
use Rattle.tsb_step.proofs.WaitedLemmas.{cleared_was_over, started_has_reverted}
use Rattle.tsb_laws.specs.Stretches.{IsUntripped, has_held_since}
use Rattle.tsb_laws.specs.RedReverts.{StartsAgain, is_red_or_off, HasReverted}
use Rattle.tsb_laws.proofs.safety.FreshStartLemmas.{fresh_start}
use Rattle.tsb_laws.proofs.safety.IntergreenLemmas.{over_in_yellow, started_now}
use Rattle.tsb_laws.proofs.safety.StretchLemmas.{dark_now, since_on, Goes, ticks, stays, goes}

-- ## What the head shows

red_or_off : (s : State) (p : ℕ) → s.trip ≡ None → is_shown (interval s p) ≡ false → is_red_or_off p s ≡ true
unfolding display
red_or_off s p dark h = go (is_enabled s.plan p) (interval s p) refl refl
  where
    go : (on : Bool) (i : Interval) → is_enabled s.plan p ≡ on → interval s p ≡ i → is_red_or_off p s ≡ true
    go true Red e k = rw (dark, e, k) refl
    go true RedClear e k = rw (dark, e, k) refl
    go true Green e k = absurd (true≢false (sym (ap is_shown k) ∙ h))
    go true Yellow e k = absurd (true≢false (sym (ap is_shown k) ∙ h))
    go false i e k = rw (dark, e) refl

-- ## A tick

yellow_done : (s : State) (p : ℕ) → interval s p ≡ Yellow → over s p ≡ true → yellow_is_done s.plan p (phase_read s p) ≡ true
yellow_done s p e h = rw (e, (over_in_yellow s p e h).0) refl

-- a phase that leaves its green and its yellow leaves its yellow, and its red revert timer begins
begins : (s : State) (row : Row) (p : ℕ) → is_shown (interval s p) ≡ true → is_shown (interval (next s row) p) ≡ false →
    (interval s p ≡ Yellow) × (((next s row).phases p).red_revert ≡ On 0)
begins s row p was now =
    go (is_started (moves s row) p) (is_ended (moves s row) p) (is_cleared (moves s row) p) (yellow_is_done s.plan p (phase_read s p)) (interval s p) refl refl refl refl refl
  where
    at_0 : is_started (moves s row) p ≡ false → yellow_is_done s.plan p (phase_read s p) ≡ true → ((next s row).phases p).red_revert ≡ On 0
    at_0 a d = rw (a, d) refl

    go : (starts ends clears done : Bool) (i : Interval) → is_started (moves s row) p ≡ starts → is_ended (moves s row) p ≡ ends →
        is_cleared (moves s row) p ≡ clears → yellow_is_done s.plan p (phase_read s p) ≡ done → interval s p ≡ i →
        (interval s p ≡ Yellow) × (((next s row).phases p).red_revert ≡ On 0)
    go true ends clears done i a b c d e = let bad : true ≡ false = rw a at now in absurd (true≢false bad)
    go false ends clears done Red a b c d e = absurd (true≢false (sym was ∙ ap is_shown e))
    go false ends clears done RedClear a b c d e = absurd (true≢false (sym was ∙ ap is_shown e))
    go false true clears done Green a b c d e = let bad : true ≡ false = rw (a, e, b) at now in absurd (true≢false bad)
    go false false clears done Green a b c d e = let bad : true ≡ false = rw (a, e, b) at now in absurd (true≢false bad)
    go false ends true done Yellow a b c d e = (e, at_0 a (yellow_done s p e (cleared_was_over s row p c)))
    go false ends false true Yellow a b c d e = (e, at_0 a d)
    go false ends false false Yellow a b c d e = let bad : true ≡ false = rw (a, e, c, rw e at d) at now in absurd (true≢false bad)

-- it runs on until the phase starts
runs_on : (s : State) (row : Row) (p n : ℕ) → is_shown (interval s p) ≡ false → is_started (moves s row) p ≡ false →
    (s.phases p).red_revert ≡ On n → ((next s row).phases p).red_revert ≡ On (n + 1)
runs_on s row p n out k e = go (interval s p) refl
  where
    go : (i : Interval) → interval s p ≡ i → ((next s row).phases p).red_revert ≡ On (n + 1)
    go Red h = rw (k, h, e) refl
    go RedClear h = rw (k, h, e) refl
    go Green h = absurd (true≢false (sym (ap is_shown h) ∙ out))
    go Yellow h = absurd (true≢false (sym (ap is_shown h) ∙ out))

-- a phase that starts is Green
starts_green : (s : State) (row : Row) (p : ℕ) → is_started (moves s row) p ≡ true → is_shown (interval (next s row) p) ≡ true
starts_green s row p k = rw k refl

-- a reset of a controller that has not tripped leaves it
reset_keeps : (s : State) (p : ℕ) → s.trip ≡ None → ((step s inputs.Reset).phases p).red_revert ≡ (s.phases p).red_revert
unfolding step
reset_keeps s p dark = rw dark refl

-- ## Since the yellow

record Since (plan : Plan) (base later : List Input) (p : ℕ) : Type 0 where
  older : List Input
  last : Row
  newer : List Input
  parts : later ≡ newer ++ (Tick last ∷ older)
  was_yellow : interval (replay plan (older ++ base)) p ≡ Yellow
  red_since : has_held_since (is_red_or_off p) plan (Tick last ∷ (older ++ base)) newer ≡ true
  out : is_shown (interval (replay plan (later ++ base)) p) ≡ false
  count : ℕ
  timer : ((replay plan (later ++ base)).phases p).red_revert ≡ On count
  clock : (replay plan (later ++ base)).now ≡ (replay plan (Tick last ∷ (older ++ base))).now + count

-- it is Green or Yellow, or was Yellow before and is neither
abbrev Course : Plan → List Input → List Input → ℕ → Type 0
Course plan base later p = (is_shown (interval (replay plan (later ++ base)) p) ≡ true) ⊎ Since plan base later p

-- one more input, with what it leaves of the timer and of the tick number
on : (plan : Plan) (base later : List Input) (p : ℕ) (i : Input) (x : Since plan base later p) (n : ℕ) →
    (replay plan (i ∷ (later ++ base))).trip ≡ None → is_shown (interval (replay plan (i ∷ (later ++ base))) p) ≡ false →
    ((replay plan (i ∷ (later ++ base))).phases p).red_revert ≡ On n →
    (replay plan (i ∷ (later ++ base))).now ≡ (replay plan (Tick x.last ∷ (x.older ++ base))).now + n → Since plan base (i ∷ later) p
on plan base later p i x n dark out timer clock = record {
  older = x.older;
  last = x.last;
  newer = i ∷ x.newer;
  parts = ap (λ (l : List Input). i ∷ l) x.parts;
  was_yellow = x.was_yellow;
  red_since = since_on (is_red_or_off p) plan (Tick x.last ∷ (x.older ++ base)) x.newer i
      (subst (λ (l : List Input). is_red_or_off p (replay plan (i ∷ l)) ≡ true) same (red_or_off (replay plan (i ∷ (later ++ base))) p dark out)) x.red_since;
  out = out;
  count = n;
  timer = timer;
  clock = clock;
}
  where
    same : later ++ base ≡ x.newer ++ (Tick x.last ∷ (x.older ++ base))
    same = ap (λ (l : List Input). l ++ base) x.parts ∙ append_assoc x.newer (Tick x.last ∷ x.older) base

module _ (plan : Plan) (base : List Input) (p : ℕ) (ok : IsConsistent plan) where
  ticked : (row : Row) (later : List Input) → (replay plan (later ++ base)).trip ≡ None → (replay plan (Tick row ∷ (later ++ base))).trip ≡ None →
      Course plan base later p → Course plan base (Tick row ∷ later) p
  ticked row later dark dark_then was =
      elim (cases_Bool (is_shown (interval (replay plan (Tick row ∷ (later ++ base))) p))) [
        | inl h ↦ inl h
        | inr h ↦ inr (leaves h was)
      ]
    where
      s : State
      s = replay plan (later ++ base)

      same : (replay plan (Tick row ∷ (later ++ base))).phases p ≡ (next (replay plan (later ++ base)) row).phases p
      same = ap (λ (f : ℕ → Phase). f p) (phases_then (replay plan (later ++ base)) row dark)

      clock : (replay plan (Tick row ∷ (later ++ base))).now ≡ (replay plan (later ++ base)).now + 1
      clock = one_later (replay plan (later ++ base)) row

      leaves : is_shown (interval (replay plan (Tick row ∷ (later ++ base))) p) ≡ false → Course plan base later p → Since plan base (Tick row ∷ later) p
      leaves h (inl lit) =
          let both = begins (replay plan (later ++ base)) row p lit (sym (ap (λ (x : Phase). is_shown x.interval) same) ∙ h) in
          record {
            older = later;
            last = row;
            newer = [];
            parts = refl;
            was_yellow = both.0;
            red_since = red_or_off (replay plan (Tick row ∷ (later ++ base))) p dark_then h;
            out = h;
            count = 0;
            timer = ap (λ (x : Phase). x.red_revert) same ∙ both.1;
            clock = omega arith;
          }
      leaves h (inr x) =
          let stays : is_started (moves (replay plan (later ++ base)) row) p ≡ false =
          elim (cases_Bool (is_started (moves (replay plan (later ++ base)) row) p)) [
            | inl k ↦ absurd (true≢false (sym (starts_green (replay plan (later ++ base)) row p k) ∙ sym (ap (λ (x : Phase). is_shown x.interval) same) ∙ h))
            | inr k ↦ k
          ] in
          let before : (replay plan (later ++ base)).now ≡ (replay plan (Tick x.last ∷ (x.older ++ base))).now + x.count = x.clock in
          on plan base later p (Tick row) x (x.count + 1) dark_then h
          (ap (λ (x : Phase). x.red_revert) same ∙ runs_on (replay plan (later ++ base)) row p x.count x.out stays x.timer)
          (omega (arith, clock, before))

  -- an input that leaves phases and tick number
  still : (i : Input) (later : List Input) → (replay plan (i ∷ (later ++ base))).trip ≡ None →
      interval (replay plan (i ∷ (later ++ base))) p ≡ interval (replay plan (later ++ base)) p →
      ((replay plan (i ∷ (later ++ base))).phases p).red_revert ≡ ((replay plan (later ++ base)).phases p).red_revert →
      (replay plan (i ∷ (later ++ base))).now ≡ (replay plan (later ++ base)).now → Course plan base later p → Course plan base (i ∷ later) p
  still i later dark_then same timer clock (inl lit) = inl (ap is_shown same ∙ lit)
  still i later dark_then same timer clock (inr x) =
      inr (on plan base later p i x x.count dark_then (ap is_shown same ∙ x.out) (timer ∙ x.timer) (clock ∙ x.clock))

  other : (i : Input) (later : List Input) → is_tick i ≡ false → is_reset i ≡ false → (replay plan (later ++ base)).trip ≡ None →
      (replay plan (i ∷ (later ++ base))).trip ≡ None → Course plan base later p → Course plan base (i ∷ later) p
  other i later t r dark dark_then was = go (goes (replay plan (later ++ base)) i dark)
    where
      go : Goes (replay plan (later ++ base)) i → Course plan base (i ∷ later) p
      go (ticks row e) = absurd (true≢false (sym (ap is_tick e) ∙ t))
      go (stays none same) =
          still i later dark_then (same.interval p) (ap (λ (x : Phase). x.red_revert) (others_leave (replay plan (later ++ base)) i p t r)) same.now was

  reset : (later : List Input) → (replay plan (later ++ base)).trip ≡ None → (replay plan (inputs.Reset ∷ (later ++ base))).trip ≡ None →
      Course plan base later p → Course plan base (inputs.Reset ∷ later) p
  reset later dark dark_then was = go (goes (replay plan (later ++ base)) inputs.Reset dark)
    where
      go : Goes (replay plan (later ++ base)) inputs.Reset → Course plan base (inputs.Reset ∷ later) p
      go (ticks row e) = absurd (false≢true (ap is_tick e))
      go (stays none same) = still inputs.Reset later dark_then (same.interval p) (reset_keeps (replay plan (later ++ base)) p dark) same.now was

  course : (later : List Input) → IsUntripped plan base later → interval (replay plan base) p ≡ Yellow → Course plan base later p
  course [] dark e = inl (rw e refl)
  course (inputs.Tick row ∷ later) dark e = ticked row later (dark_now plan base later dark.0) dark.1 (course later dark.0 e)
  course (inputs.Reset ∷ later) dark e = reset later (dark_now plan base later dark.0) dark.1 (course later dark.0 e)
  course (i ∷ later) dark e = other i later refl refl (dark_now plan base later dark.0) dark.1 (course later dark.0 e)

-- ## The start

passed_by : (s : State) (p n : ℕ) → is_shown (interval s p) ≡ false → (s.phases p).red_revert ≡ On n → reverted s p ≡ true →
    red_revert s.plan p ≤ n + 1
unfolding red_revert_passed
passed_by s p n out e h = go (interval s p) refl
  where
    go : (i : Interval) → interval s p ≡ i → red_revert s.plan p ≤ n + 1
    go Red k = leb-true (red_revert s.plan p) (n + 1) (rw (k, e) at h)
    go RedClear k = leb-true (red_revert s.plan p) (n + 1) (rw (k, e) at h)
    go Green k = absurd (true≢false (sym (ap is_shown k) ∙ out))
    go Yellow k = absurd (true≢false (sym (ap is_shown k) ∙ out))

pub reverts_hold : (plan : Plan) (base later : List Input) (row : Row) (p : ℕ) → IsConsistent plan → AreTaken plan (later ++ base) →
    StartsAgain plan base later row p → HasReverted plan base later row p
reverts_hold plan base later row p ok taken x = go (course plan base p ok later x.untripped x.was_yellow)
  where
    starts : is_started (moves (replay plan (later ++ base)) row) p ≡ true
    starts = started_now plan (later ++ base) row p ok taken x.started

    passes : reverted (replay plan (later ++ base)) p ≡ true
    passes = started_has_reverted (replay plan (later ++ base)) row p starts

    -- it was out of service before that tick
    fresh : in_service (interval (replay plan (later ++ base)) p) ≡ false
    fresh = fresh_start plan (later ++ base) row p ok taken starts

    was_out : (i : Interval) → interval (replay plan (later ++ base)) p ≡ i → is_shown (interval (replay plan (later ++ base)) p) ≡ false
    was_out Yellow e = absurd (false≢true (sym fresh ∙ ap in_service e))
    was_out Green e = absurd (false≢true (sym fresh ∙ ap in_service e))
    was_out Red e = ap is_shown e
    was_out RedClear e = ap is_shown e

    go : Course plan base later p → HasReverted plan base later row p
    go (inl h) = absurd (false≢true (sym (was_out (interval (replay plan (later ++ base)) p) refl) ∙ h))
    go (inr y) =
        let wait : red_revert (replay plan (later ++ base)).plan p ≤ y.count + 1 =
        passed_by (replay plan (later ++ base)) p y.count y.out y.timer passes in
        let before : (replay plan (later ++ base)).now ≡ (replay plan (Tick y.last ∷ (y.older ++ base))).now + y.count = y.clock in
        let clock : (replay plan (Tick row ∷ (later ++ base))).now ≡ (replay plan (later ++ base)).now + 1 = one_later (replay plan (later ++ base)) row in
        record {
          older = y.older;
          last = y.last;
          newer = y.newer;
          parts = y.parts;
          was_yellow = y.was_yellow;
          red_since = y.red_since;
          waited = omega (arith, wait, before, clock);
        }
