-- A green that has had a conflict for long enough may end: along a run, over inputs of every kind. Proves
-- `pressed_greens_may_end`.
use Rattle.std.proofs.Common.{◌≡◌, ℕ, ◌+◌, ◌-◌, ◌≤◌, Bool, true, false, ◌&&◌, List, [], ◌∷◌, ◌++◌, None, refl, sym, ap, arith, ◌∙◌, inl, inr}
use Rattle.std.proofs.lemmas.Bool.{cases_Bool, and_parts, true≢false}
use Rattle.std.proofs.lemmas.Bool.Decides.{nat_tests}
use Rattle.tsb_step.specs.tsb_types.declared.interval.Interval.TheVariants.{Green, Yellow}
use Rattle.tsb_step.specs.tsb_types.declared.row.Row.{Row}
use Rattle.tsb_step.specs.tsb_types.Intervals.{is_green, is_yellow, is_red_clear, is_walk, is_clearance, in_service}
use Rattle.tsb_step.specs.tsb_types.Sets.{is_phase}
use Rattle.tsb_step.specs.tsb_rules.Consistent.{IsPhase}
use Rattle.tsb_step.specs.tsb_plan.Plan.{Plan, walk, pedestrian_clear}
use Rattle.tsb_step.specs.tsb_phase.Phase.{Phase}
use Rattle.tsb_step.specs.tsb_ring.Laws.{IsListed}
use Rattle.tsb_step.specs.tsb_ring.Moves.{is_ended, is_started}
use Rattle.tsb_step.specs.declared.inputs.Input.{Input}
use Rattle.tsb_step.specs.declared.inputs.Input.TheVariants as inputs
use Rattle.tsb_step.specs.declared.inputs.Input.TheVariants.{Tick}
use Rattle.tsb_step.specs.State.{State, interval, pedestrian_part}
use Rattle.tsb_step.specs.Tick.{conflict, moves, ready, next}
use Rattle.tsb_step.specs.Step.{step}
use Rattle.tsb_step.specs.Runs.{replay, AreTaken}
use Rattle.tsb_step.specs.Laws.{IsConsistent}
use Rattle.tsb_step.specs.Good.{IsGood}
use Rattle.tsb_step.specs.TimeLaws.{held_for, is_tick, TellsTime}
use Rattle.tsb_step.proofs.ClearLemmas.{phases_then, one_later}
use Rattle.tsb_step.proofs.GivenLemmas.{listed_is_phase}
use Rattle.tsb_step.proofs.GoodLemmas.{good_run}
use Rattle.tsb_step.proofs.LeaveLemmas.{others_leave}
use Rattle.tsb_step.proofs.TellLemmas.{starts_no_green, timers_tell_time, is_in_green}
use Rattle.tsb_laws.specs.Stretches.{IsUntripped, largest}
use Rattle.tsb_laws.specs.ServedCalls.{is_free, is_pressed, HasBeenPressed, longest_maximum, longest_initial, IsDoneWithin}
use Rattle.tsb_laws.proofs.safety.StretchLemmas.{dark_now, Goes, ticks, stays, goes, at_next}
use Rattle.tsb_laws.proofs.safety.DueLemmas.{largest_now, largest_more, count_run}
use Rattle.tsb_laws.proofs.operation.step.PhaseTimeLemmas.{left, walking_in, IsTimed, left_most, walking_most}
use Rattle.tsb_laws.proofs.operation.green.PressedGreenLemmas.{pressed_left, pressed_unforced, presses_down, not_ready_yet}
use Rattle.tsb_step.proofs.StandLemmas.{keeps_reset}

-- ## Timers that run

pub timed_run : (plan : Plan) (is : List Input) → IsConsistent plan → AreTaken plan is → (replay plan is).trip ≡ None → (p : ℕ) →
    IsTimed ((replay plan is).phases p)
timed_run plan is ok taken dark p =
    let it : TellsTime plan is p = timers_tell_time plan is ok taken dark p in
    record {
      green = λ e. record { count = held_for (λ s. is_green (interval s p)) plan is; is = it.green e };
      yellow = λ e. record { count = held_for (λ s. is_yellow (interval s p)) plan is; is = it.yellow e };
      red_clear = λ e. record { count = held_for (λ s. is_red_clear (interval s p)) plan is; is = it.red_clear e };
      walk = λ e. record { count = held_for (λ s. is_walk (pedestrian_part s p)) plan is; is = it.walk e };
      clearance = λ e. record { count = held_for (λ s. is_clearance (pedestrian_part s p)) plan is; is = it.clearance e };
    }

-- ## An input that is no tick

reset_phase : (s : State) (p : ℕ) → s.trip ≡ None → (step s inputs.Reset).phases p ≡ s.phases p
unfolding step
reset_phase s p dark = ap (λ (x : State). x.phases p) (keeps_reset s dark)

-- it leaves all of a phase but its forced latch
pub phase_stays : {A : Type 0} (of : Phase → A) → ((x : Phase) (b : Bool) → of (record x { forced = b }) ≡ of x) → (s : State) (i : Input) (p : ℕ) →
    is_tick i ≡ false → s.trip ≡ None → of ((step s i).phases p) ≡ of (s.phases p)
phase_stays of unforced s (inputs.Tick row) p t dark = absurd (true≢false t)
phase_stays of unforced s inputs.Reset p t dark = ap of (reset_phase s p dark)
phase_stays of unforced s i p t dark = ap of (others_leave s i p refl refl) ∙ unforced (s.phases p) ((step s i).phases p).forced

pub clock_stays : (s : State) (i : Input) → is_tick i ≡ false → s.trip ≡ None → (step s i).now ≡ s.now
clock_stays s i t dark = go (goes s i dark)
  where
    go : Goes s i → (step s i).now ≡ s.now
    go (ticks row e) = absurd (true≢false (sym (ap is_tick e) ∙ t))
    go (stays none same) = same.now

-- ## How long a green takes

pub pressed_most : (m i a b n : ℕ) (x : Phase) → m ≤ n → i ≤ n → a + b ≤ n → pressed_left m i a b x ≤ n
unfolding pressed_left
pressed_most m i a b n x most_m most_i most_w =
    let first : left m x.conflict ≤ m = left_most m x.conflict in
    let second : left i x.timer ≤ i = left_most i x.timer in
    let third : walking_in a b x.pedestrian_timer x.pedestrian ≤ a + b = walking_most a b x.pedestrian_timer x.pedestrian in
    omega (arith, first, second, third, most_m, most_i, most_w)

pub is_one : (plan : Plan) (p : ℕ) → plan.phase_count ≤ 16 → IsListed plan p → is_phase p ≡ true
is_one plan p few listed =
    let it : IsPhase plan p = listed_is_phase plan p listed in
    let low : 1 ≤ p = it.from_one in
    let high : p ≤ plan.phase_count = it.within in
    grind (arith, nat_tests, low, high, few)

-- a phase that was Green and is has not ended
pub not_ended : (s : State) (row : Row) (p : ℕ) → interval s p ≡ Green → is_started (moves s row) p ≡ false → interval (next s row) p ≡ Green →
    is_ended (moves s row) p ≡ false
not_ended s row p was no_start now = go (is_ended (moves s row) p) refl
  where
    go : (b : Bool) → is_ended (moves s row) p ≡ b → is_ended (moves s row) p ≡ false
    go false e = e
    go true e =
        let yellow : interval (next s row) p ≡ Yellow = rw (no_start, was, e) refl in
        absurd (true≢false (sym (ap is_green now) ∙ ap is_green yellow))

record Pressed (s : State) (row : Row) (p : ℕ) : Type 0 where
  green : interval s p ≡ Green
  busy : conflict s row p ≡ true
  free : is_free s row ≡ true

pressed_parts : (s : State) (row : Row) (p : ℕ) → is_pressed p s (Tick row) ≡ true → Pressed s row p
pressed_parts s row p h =
    let outer = and_parts (is_green (interval s p) && conflict s row p) (is_free s row) h in
    let inner = and_parts (is_green (interval s p)) (conflict s row p) outer.0 in
    record { green = is_in_green (interval s p) inner.0; busy = inner.1; free = outer.1 }

module _ (plan : Plan) (base : List Input) (p n a b : ℕ) (ok : IsConsistent plan) (few : plan.phase_count ≤ 16) (both : a + b ≤ n) where
  few_now : (is : List Input) → (replay plan is).plan.phase_count ≤ 16
  few_now is = let same = count_run plan is in omega (arith, same, few)

  one_now : (is : List Input) → AreTaken plan is → interval (replay plan is) p ≡ Green → is_phase p ≡ true
  one_now is taken e = is_one (replay plan is).plan p (few_now is) ((good_run plan is ok taken).rings.listed p (ap in_service e))

  abbrev left_after : List Input → ℕ
  left_after is = pressed_left n n a b ((replay plan is).phases p)

  record Walks (later : List Input) : Type 0 where
    walks : largest (λ x. walk x p) plan base later ≤ a
    clears : largest (λ x. pedestrian_clear x p) plan base later ≤ b

  walks_before : (i : Input) (later : List Input) → Walks (i ∷ later) → Walks later
  walks_before i later most = record {
    walks = (let more = largest_more (λ x. walk x p) plan base later i in let now = most.walks in omega (arith, more, now));
    clears = (let more = largest_more (λ x. pedestrian_clear x p) plan base later i in let now = most.clears in omega (arith, more, now));
  }

  -- a tick of the stretch
  one_less : (row : Row) (later : List Input) → AreTaken plan (later ++ base) → (replay plan (later ++ base)).trip ≡ None → Pressed (replay plan (later ++ base)) row p →
      Walks later → interval (replay plan (Tick row ∷ (later ++ base))) p ≡ Green →
      left_after (later ++ base) ≤ (replay plan base).now + n - (replay plan (later ++ base)).now →
      left_after (Tick row ∷ (later ++ base)) ≤ (replay plan base).now + n - (replay plan (Tick row ∷ (later ++ base))).now
  one_less row later taken dark it most green before =
      let now : (replay plan (Tick row ∷ (later ++ base))).now ≡ (replay plan (later ++ base)).now + 1 = one_later (replay plan (later ++ base)) row in
      let same : left_after (Tick row ∷ (later ++ base)) ≡ pressed_left n n a b ((next (replay plan (later ++ base)) row).phases p) =
      ap (λ (f : ℕ → Phase). pressed_left n n a b (f p)) (phases_then (replay plan (later ++ base)) row dark) in
      omega (arith, now, same, down, before)
    where
      good : IsGood (replay plan (later ++ base))
      good = good_run plan (later ++ base) ok taken

      still_green : interval (next (replay plan (later ++ base)) row) p ≡ Green
      still_green = sym (at_next (replay plan (later ++ base)) row p dark) ∙ green

      no_start : is_started (moves (replay plan (later ++ base)) row) p ≡ false
      no_start =
          elim (cases_Bool (is_started (moves (replay plan (later ++ base)) row) p)) [
            | inl h ↦ absurd (true≢false (sym (ap is_green it.green) ∙ starts_no_green (replay plan (later ++ base)) row p good h))
            | inr h ↦ h
          ]

      walk_now : walk (replay plan (later ++ base)).plan p ≤ a
      walk_now = let more = largest_now (λ x. walk x p) plan base later in let limit = most.walks in omega (arith, more, limit)

      clear_now : pedestrian_clear (replay plan (later ++ base)).plan p ≤ b
      clear_now = let more = largest_now (λ x. pedestrian_clear x p) plan base later in let limit = most.clears in omega (arith, more, limit)

      down : pressed_left n n a b ((next (replay plan (later ++ base)) row).phases p) ≤ left_after (later ++ base) - 1
      down =
          presses_down (replay plan (later ++ base)) row p (one_now (later ++ base) taken it.green) it.busy it.free n n a b walk_now clear_now
          (timed_run plan (later ++ base) ok taken dark p) it.green
          (not_ended (replay plan (later ++ base)) row p it.green no_start still_green) no_start

  -- any other input
  none_less : (i : Input) (later : List Input) → is_tick i ≡ false → (replay plan (later ++ base)).trip ≡ None →
      left_after (later ++ base) ≤ (replay plan base).now + n - (replay plan (later ++ base)).now →
      left_after (i ∷ (later ++ base)) ≤ (replay plan base).now + n - (replay plan (i ∷ (later ++ base))).now
  none_less i later t dark before =
      let now : (replay plan (i ∷ (later ++ base))).now ≡ (replay plan (later ++ base)).now = clock_stays (replay plan (later ++ base)) i t dark in
      let same : left_after (i ∷ (later ++ base)) ≡ left_after (later ++ base) =
      phase_stays (pressed_left n n a b) (pressed_unforced n n a b) (replay plan (later ++ base)) i p t dark in
      omega (arith, now, same, before)

  green_before : (i : Input) (later : List Input) → is_tick i ≡ false → (replay plan (later ++ base)).trip ≡ None →
      interval (replay plan (i ∷ (later ++ base))) p ≡ Green → interval (replay plan (later ++ base)) p ≡ Green
  green_before i later t dark green = sym (phase_stays (λ x. x.interval) (λ x f. refl) (replay plan (later ++ base)) i p t dark) ∙ green

  lasts : (later : List Input) → AreTaken plan (later ++ base) → IsUntripped plan base later → HasBeenPressed plan p base later → Walks later →
      interval (replay plan (later ++ base)) p ≡ Green → left_after (later ++ base) ≤ (replay plan base).now + n - (replay plan (later ++ base)).now
  lasts [] taken dark pressed most green =
      let all : left_after base ≤ n = pressed_most n n a b n ((replay plan base).phases p) (omega arith) (omega arith) both in omega (arith, all)
  lasts (inputs.Tick row ∷ later) taken dark pressed most green =
      let it : Pressed (replay plan (later ++ base)) row p = pressed_parts (replay plan (later ++ base)) row p pressed.1 in
      one_less row later taken.0 (dark_now plan base later dark.0) it (walks_before (Tick row) later most) green
      (lasts later taken.0 dark.0 pressed.0 (walks_before (Tick row) later most) it.green)
  lasts (i ∷ later) taken dark pressed most green =
      none_less i later refl (dark_now plan base later dark.0)
      (lasts later taken.0 dark.0 pressed.0 (walks_before i later most) (green_before i later refl (dark_now plan base later dark.0) green))

pub pressed_may_end : (plan : Plan) (base later : List Input) (row : Row) (p n : ℕ) → IsConsistent plan → plan.phase_count ≤ 16 →
    AreTaken plan (later ++ base) → IsUntripped plan base later → HasBeenPressed plan p base (Tick row ∷ later) →
    IsDoneWithin plan base p n later → (replay plan base).now + n ≤ (replay plan (later ++ base)).now →
    ready (replay plan (later ++ base)) row p ≡ true
pressed_may_end plan base later row p n ok few taken dark pressed done long =
    elim (cases_Bool (ready (replay plan (later ++ base)) row p)) [ inl h ↦ h | inr h ↦ absurd (too_long h) ]
  where
    it : Pressed (replay plan (later ++ base)) row p
    it = pressed_parts (replay plan (later ++ base)) row p pressed.1

    dark_here : (replay plan (later ++ base)).trip ≡ None
    dark_here = dark_now plan base later dark

    maximum_now : longest_maximum (replay plan (later ++ base)).plan p ≤ n
    maximum_now = let more = largest_now (λ x. longest_maximum x p) plan base later in let limit = done.maximum in omega (arith, more, limit)

    initial_now : longest_initial (replay plan (later ++ base)).plan p ≤ n
    initial_now = let more = largest_now (λ x. longest_initial x p) plan base later in let limit = done.initial in omega (arith, more, limit)

    too_long : ready (replay plan (later ++ base)) row p ≡ false → ⊥
    too_long h =
        let most : pressed_left n n (largest (λ x. walk x p) plan base later) (largest (λ x. pedestrian_clear x p) plan base later) ((replay plan (later ++ base)).phases p)
        ≤ (replay plan base).now + n - (replay plan (later ++ base)).now =
        lasts plan base p n (largest (λ x. walk x p) plan base later) (largest (λ x. pedestrian_clear x p) plan base later) ok few done.pedestrians later taken dark pressed.0
        (record { walks = omega arith; clears = omega arith }) it.green in
        let some : 1 ≤ pressed_left n n (largest (λ x. walk x p) plan base later) (largest (λ x. pedestrian_clear x p) plan base later) ((replay plan (later ++ base)).phases p) =
        not_ready_yet (replay plan (later ++ base)) row p
        (one_now plan base p n (largest (λ x. walk x p) plan base later) (largest (λ x. pedestrian_clear x p) plan base later) ok few done.pedestrians (later ++ base) taken it.green)
        it.busy it.free n n (largest (λ x. walk x p) plan base later) (largest (λ x. pedestrian_clear x p) plan base later) maximum_now initial_now
        (largest_now (λ x. walk x p) plan base later) (largest_now (λ x. pedestrian_clear x p) plan base later)
        (timed_run plan (later ++ base) ok taken dark_here p) it.green h in
        omega (arith, most, some, long)
