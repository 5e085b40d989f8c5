-- A green that has had a conflict for long enough in a pattern may end: along a run, over inputs of every kind but
-- those that select a pattern or commit. Proves the clause `forced` of `coordination_goes_on`.
use Rattle.std.proofs.Common.{◌≡◌, ℕ, ◌+◌, ◌-◌, ◌<◌, ◌≤◌, Bool, true, false, ◌&&◌, if◌then◌else◌, List, [], ◌∷◌, ◌++◌, Option, None, is_some, is_none, refl, sym, ap, subst, arith, ◌∙◌, inl, inr}
use Rattle.std.proofs.lemmas.Bool.{cases_Bool, and_parts, true≢false, false≢true}
use Rattle.tsb_step.specs.tsb_types.declared.interval.Interval.TheVariants.{Green}
use Rattle.tsb_step.specs.tsb_types.declared.lamp.Lamp.{Lamp}
use Rattle.tsb_step.specs.tsb_types.declared.row.Row.{Row}
use Rattle.tsb_step.specs.tsb_types.Intervals.{is_green, in_service}
use Rattle.tsb_step.specs.tsb_types.Sets.{is_phase}
use Rattle.tsb_step.specs.tsb_plan.Plan.{Plan, walk, pedestrian_clear}
use Rattle.tsb_step.specs.tsb_coord.Correction.{forces}
use Rattle.tsb_step.specs.tsb_phase.Phase.{Phase}
use Rattle.tsb_step.specs.tsb_ring.Moves.{is_ended, is_started}
use Rattle.tsb_step.specs.declared.inputs.Input.{Input}
use Rattle.tsb_step.specs.declared.inputs.Input.TheVariants as inputs
use Rattle.tsb_step.specs.declared.inputs.Input.TheVariants.{Tick}
use Rattle.tsb_step.specs.State.{State, restarted, interval}
use Rattle.tsb_step.specs.Tick.{service, runs, conflict, moves, ready, next}
use Rattle.tsb_step.specs.Signs.{watched}
use Rattle.tsb_step.specs.Step.{with_lamp, reset, step}
use Rattle.tsb_step.specs.Runs.{replay, AreTaken}
use Rattle.tsb_step.specs.Laws.{IsConsistent}
use Rattle.tsb_step.specs.Good.{IsGood}
use Rattle.tsb_step.specs.TimeLaws.{is_tick}
use Rattle.tsb_step.proofs.ClearLemmas.{phases_then, one_later, plan_stays, pattern_stays, correction_stays}
use Rattle.tsb_step.proofs.GoodLemmas.{good_run}
use Rattle.tsb_step.proofs.TellLemmas.{starts_no_green, is_in_green}
use Rattle.tsb_laws.specs.Stretches.{IsUntripped}
use Rattle.tsb_laws.specs.ServedCalls.{longest_initial}
use Rattle.tsb_laws.specs.CoordinatedGreens.{HasGoneOn, is_pressed_in_pattern, IsForcedWithin}
use Rattle.tsb_laws.proofs.safety.StretchLemmas.{dark_now, at_next}
use Rattle.tsb_laws.proofs.safety.DueLemmas.{count_run}
use Rattle.tsb_laws.proofs.operation.step.PhaseTimeLemmas.{left, walking_in, left_most, walking_most}
use Rattle.tsb_laws.proofs.operation.green.PressedRunLemmas.{timed_run, is_one, not_ended}
use Rattle.tsb_laws.proofs.operation.pattern.InStepLemmas.{same_forces}
use Rattle.tsb_laws.proofs.operation.pattern.CoordinatedForceLemmas.{forcing_left, pattern_left, IsAhead, Forces, forces_down, presses_down, ready_then}
use Rattle.tsb_step.proofs.EventLemmas.{none-of}

-- ## Inputs that leave plan and pattern, and how its local counter comes into step

-- an input that is no tick, and neither selects a pattern nor commits
pub record Leaves (s after : State) (p : ℕ) : Type 0 where
  pub plan : after.plan ≡ s.plan
  pub pattern : after.pattern ≡ s.pattern
  pub correction : after.correction ≡ s.correction
  pub now : after.now ≡ s.now
  pub phase : after.phases p ≡ s.phases p

pub lit_leaves : (s : State) (lamp : Option Lamp) (p : ℕ) → Leaves s (with_lamp lamp s) p
unfolding watched
lit_leaves s lamp p = go (is_some s.trip)
  where
    go : (b : Bool) → Leaves s (if b then record s { lamp = lamp } else watched s (record s { lamp = lamp })) p
    go true = record { plan = refl; pattern = refl; correction = refl; now = refl; phase = refl }
    go false = record { plan = refl; pattern = refl; correction = refl; now = refl; phase = refl }

reset_leaves : (s : State) (p : ℕ) → s.trip ≡ None → Leaves s (reset s) p
reset_leaves s p dark = go (is_some s.trip) (ap is_some dark)
  where
    go : (b : Bool) → b ≡ false → Leaves s (if b then restarted s else s) p
    go true h = absurd (true≢false h)
    go false h = record { plan = refl; pattern = refl; correction = refl; now = refl; phase = refl }

pub leaves : (s : State) (i : Input) (p : ℕ) → is_tick i ≡ false → is_pressed_in_pattern p s i ≡ true → s.trip ≡ None → Leaves s (step s i) p
unfolding step
leaves s (inputs.Tick row) p t h dark = absurd (true≢false t)
leaves s (inputs.Pattern n) p t h dark = absurd (false≢true h)
leaves s (inputs.Clock m) p t h dark = absurd (false≢true h)
leaves s (inputs.Commit station) p t h dark = absurd (false≢true h)
leaves s (inputs.Fault lamp) p t h dark = lit_leaves s lamp p
leaves s inputs.Reset p t h dark = reset_leaves s p dark
leaves s i p t h dark = record { plan = refl; pattern = refl; correction = refl; now = refl; phase = refl }

-- ## Along a stretch

pub record IsPressed (s : State) (row : Row) (p : ℕ) : Type 0 where
  pub green : interval s p ≡ Green
  pub conflict : conflict s row p ≡ true
  pub runs : is_some (runs s) ≡ true
  pub quiet : service s row ≡ None

pub pressed_parts : (s : State) (row : Row) (p : ℕ) → is_pressed_in_pattern p s (Tick row) ≡ true → IsPressed s row p
pressed_parts s row p h =
    let outer = and_parts (is_green (interval s p) && conflict s row p) (is_some (runs s) && is_none (service s row)) h in
    let inner = and_parts (is_green (interval s p)) (conflict s row p) outer.0 in
    let other = and_parts (is_some (runs s)) (is_none (service s row)) outer.1 in
    record { green = is_in_green (interval s p) inner.0; conflict = inner.1; runs = other.0; quiet = none-of (service s row) other.1 }

module _ (plan : Plan) (base : List Input) (f p n a b : ℕ) (ok : IsConsistent plan) (few : plan.phase_count ≤ 16)
    (comes : forces (replay plan base).plan (replay plan base).pattern (replay plan base).correction f p ≡ true) (later_than : (replay plan base).now < f)
    (soon : f ≤ (replay plan base).now + n + 1) (both : a + b ≤ n) (walk_is : walk (replay plan base).plan p ≡ a)
    (clear_is : pedestrian_clear (replay plan base).plan p ≡ b) where
  abbrev left_after : List Input → ℕ
  left_after is = pattern_left f ((replay plan is).now + 1) n a b ((replay plan is).phases p)

  -- plan, pattern and correction are those of the base
  record Same (is : List Input) : Type 0 where
    plan_is : (replay plan is).plan ≡ (replay plan base).plan
    pattern_is : (replay plan is).pattern ≡ (replay plan base).pattern
    correction_is : (replay plan is).correction ≡ (replay plan base).correction

  same_still : (is : List Input) (i : Input) → Same is → (replay plan (i ∷ is)).plan ≡ (replay plan is).plan →
      (replay plan (i ∷ is)).pattern ≡ (replay plan is).pattern → (replay plan (i ∷ is)).correction ≡ (replay plan is).correction → Same (i ∷ is)
  same_still is i before e g h = record { plan_is = e ∙ before.plan_is; pattern_is = g ∙ before.pattern_is; correction_is = h ∙ before.correction_is }

  same_now : (later : List Input) → IsUntripped plan base later → HasGoneOn (is_pressed_in_pattern p) plan base later → Same (later ++ base)
  same_now [] dark pressed = record { plan_is = refl; pattern_is = refl; correction_is = refl }
  same_now (inputs.Tick row ∷ later) dark pressed =
      same_still (later ++ base) (Tick row) (same_now later dark.0 pressed.0) (plan_stays (replay plan (later ++ base)) row) (pattern_stays (replay plan (later ++ base)) row)
      (correction_stays (replay plan (later ++ base)) row)
  same_now (i ∷ later) dark pressed =
      let it : Leaves (replay plan (later ++ base)) (replay plan (i ∷ (later ++ base))) p =
      leaves (replay plan (later ++ base)) i p refl pressed.1 (dark_now plan base later dark.0) in
      same_still (later ++ base) i (same_now later dark.0 pressed.0) it.plan it.pattern it.correction

  few_now : (is : List Input) → (replay plan is).plan.phase_count ≤ 16
  few_now is = let same = count_run plan is in omega (arith, same, few)

  -- of a state in which p is Green
  record Knows (is : List Input) : Type 0 where
    good : IsGood (replay plan is)
    on : is_phase p ≡ true
    comes_now : forces (replay plan is).plan (replay plan is).pattern (replay plan is).correction f p ≡ true
    walk_now : walk (replay plan is).plan p ≡ a
    clear_now : pedestrian_clear (replay plan is).plan p ≡ b

  knows : (is : List Input) → AreTaken plan is → Same is → interval (replay plan is) p ≡ Green → Knows is
  knows is taken same green = record {
    good = good;
    on = is_one (replay plan is).plan p (few_now is) (good.rings.listed p (ap in_service green));
    comes_now = same_forces (replay plan is).plan (replay plan base).plan (replay plan is).pattern (replay plan base).pattern (replay plan is).correction
        (replay plan base).correction f p same.plan_is same.pattern_is same.correction_is ∙ comes;
    walk_now = ap (λ (x : Plan). walk x p) same.plan_is ∙ walk_is;
    clear_now = ap (λ (x : Plan). pedestrian_clear x p) same.plan_is ∙ clear_is;
  }
    where
      good : IsGood (replay plan is)
      good = good_run plan is ok taken

  -- the green is no longer than it may be, and its instant is still to come or has come
  record InTime (is : List Input) : Type 0 where
    ahead : IsAhead f ((replay plan is).now + 1) ((replay plan is).phases p).forced
    most : left_after is ≤ (replay plan base).now + n - (replay plan is).now

  -- a tick of the stretch
  one_less : (row : Row) (is : List Input) → AreTaken plan is → (replay plan is).trip ≡ None → IsPressed (replay plan is) row p → Knows is →
      interval (replay plan (Tick row ∷ is)) p ≡ Green → InTime is → InTime (Tick row ∷ is)
  one_less row is taken dark it facts green before = record {
    ahead = subst (λ (t : ℕ). IsAhead f (t + 1) ((replay plan (Tick row ∷ is)).phases p).forced) (sym (one_later (replay plan is) row))
        (subst (λ (g : ℕ → Phase). IsAhead f ((replay plan is).now + 1 + 1) (g p).forced) (sym (phases_then (replay plan is) row dark)) down.ahead);
    most = (let now : (replay plan (Tick row ∷ is)).now ≡ (replay plan is).now + 1 = one_later (replay plan is) row in
        let were : left_after is ≤ (replay plan base).now + n - (replay plan is).now = before.most in
        omega (arith, now, same, less, were));
  }
    where
      same : left_after (Tick row ∷ is) ≡ pattern_left f ((replay plan is).now + 1 + 1) n a b ((next (replay plan is) row).phases p)
      same =
          ap (λ (x : ℕ). pattern_left f (x + 1) n a b ((replay plan (Tick row ∷ is)).phases p)) (one_later (replay plan is) row)
          ∙ ap (λ (g : ℕ → Phase). pattern_left f ((replay plan is).now + 1 + 1) n a b (g p)) (phases_then (replay plan is) row dark)

      still_green : interval (next (replay plan is) row) p ≡ Green
      still_green = sym (at_next (replay plan is) row p dark) ∙ green

      no_start : is_started (moves (replay plan is) row) p ≡ false
      no_start =
          elim (cases_Bool (is_started (moves (replay plan is) row) p)) [
            | inl h ↦ absurd (true≢false (sym (ap is_green it.green) ∙ starts_no_green (replay plan is) row p facts.good h))
            | inr h ↦ h
          ]

      no_end : is_ended (moves (replay plan is) row) p ≡ false
      no_end = not_ended (replay plan is) row p it.green no_start still_green

      down : Forces (replay plan is) row p f facts.on it.conflict it.runs it.quiet facts.comes_now
      down = forces_down (replay plan is) row p f facts.on it.conflict it.runs it.quiet facts.comes_now before.ahead it.green no_end no_start

      less : pattern_left f ((replay plan is).now + 1 + 1) n a b ((next (replay plan is) row).phases p) ≤ left_after is - 1
      less =
          subst (λ (x : ℕ). pattern_left f ((replay plan is).now + 1 + 1) n x b ((next (replay plan is) row).phases p)
          ≤ pattern_left f ((replay plan is).now + 1) n x b ((replay plan is).phases p) - 1) facts.walk_now
          (subst (λ (y : ℕ). pattern_left f ((replay plan is).now + 1 + 1) n (walk (replay plan is).plan p) y ((next (replay plan is) row).phases p)
          ≤ pattern_left f ((replay plan is).now + 1) n (walk (replay plan is).plan p) y ((replay plan is).phases p) - 1) facts.clear_now
          (presses_down (replay plan is) row p f facts.on it.conflict it.runs it.quiet facts.comes_now facts.good n
          (timed_run plan is ok taken dark p) before.ahead it.green no_end no_start))

  -- any other input
  none_less : (i : Input) (is : List Input) → Leaves (replay plan is) (replay plan (i ∷ is)) p → InTime is → InTime (i ∷ is)
  none_less i is it before = record {
    ahead = subst (λ (t : ℕ). IsAhead f (t + 1) ((replay plan (i ∷ is)).phases p).forced) (sym it.now)
        (subst (λ (x : Phase). IsAhead f ((replay plan is).now + 1) x.forced) (sym it.phase) before.ahead);
    most = (let now : (replay plan (i ∷ is)).now ≡ (replay plan is).now = it.now in
        let were : left_after is ≤ (replay plan base).now + n - (replay plan is).now = before.most in
        omega (arith, now, same, were));
  }
    where
      same : left_after (i ∷ is) ≡ left_after is
      same =
          ap (λ (x : ℕ). pattern_left f (x + 1) n a b ((replay plan (i ∷ is)).phases p)) it.now
          ∙ ap (λ (x : Phase). pattern_left f ((replay plan is).now + 1) n a b x) it.phase

  at_first : InTime base
  at_first = record {
    ahead = ahead ((replay plan base).phases p).forced;
    most = (let first = forcing ((replay plan base).phases p).forced in
        let second : left n ((replay plan base).phases p).timer ≤ n = left_most n ((replay plan base).phases p).timer in
        let third : walking_in a b ((replay plan base).phases p).pedestrian_timer ((replay plan base).phases p).pedestrian ≤ a + b =
        walking_most a b ((replay plan base).phases p).pedestrian_timer ((replay plan base).phases p).pedestrian in
        omega (arith, first, second, third, both));
  }
    where
      ahead : (l : Bool) → IsAhead f ((replay plan base).now + 1) l
      ahead true = tt
      ahead false = omega (arith, later_than)

      forcing : (l : Bool) → forcing_left f ((replay plan base).now + 1) l ≤ n
      forcing true = omega arith
      forcing false = omega (arith, soon)

  lasts : (later : List Input) → AreTaken plan (later ++ base) → IsUntripped plan base later → HasGoneOn (is_pressed_in_pattern p) plan base later →
      interval (replay plan (later ++ base)) p ≡ Green → InTime (later ++ base)
  lasts [] taken dark pressed green = at_first
  lasts (inputs.Tick row ∷ later) taken dark pressed green =
      let it : IsPressed (replay plan (later ++ base)) row p = pressed_parts (replay plan (later ++ base)) row p pressed.1 in
      one_less row (later ++ base) taken.0 (dark_now plan base later dark.0) it (knows (later ++ base) taken.0 (same_now later dark.0 pressed.0) it.green) green
      (lasts later taken.0 dark.0 pressed.0 it.green)
  lasts (i ∷ later) taken dark pressed green =
      let it : Leaves (replay plan (later ++ base)) (replay plan (i ∷ (later ++ base))) p =
      leaves (replay plan (later ++ base)) i p refl pressed.1 (dark_now plan base later dark.0) in
      none_less i (later ++ base) it
      (lasts later taken.0 dark.0 pressed.0 (sym (ap (λ (x : Phase). x.interval) it.phase) ∙ green))

  pub ready_at_last : (later : List Input) (row : Row) → AreTaken plan (later ++ base) → IsUntripped plan base later →
      HasGoneOn (is_pressed_in_pattern p) plan base (Tick row ∷ later) → longest_initial (replay plan base).plan p ≤ n →
      (replay plan base).now + n ≤ (replay plan (later ++ base)).now → ready (replay plan (later ++ base)) row p ≡ true
  ready_at_last later row taken dark pressed initial long =
      let it : IsPressed (replay plan (later ++ base)) row p = pressed_parts (replay plan (later ++ base)) row p pressed.1 in
      let same : Same (later ++ base) = same_now later dark pressed.0 in
      let facts : Knows (later ++ base) = knows (later ++ base) taken same it.green in
      let dark_here : (replay plan (later ++ base)).trip ≡ None = dark_now plan base later dark in
      let last : InTime (later ++ base) = lasts later taken dark pressed.0 it.green in
      let most : left_after (later ++ base) ≤ (replay plan base).now + n - (replay plan (later ++ base)).now = last.most in
      ready_then (replay plan (later ++ base)) row p f facts.on it.conflict it.runs it.quiet facts.comes_now n a b
      (subst (λ (x : Plan). longest_initial x p ≤ n) (sym same.plan_is) initial) (at_most facts.walk_now) (at_most facts.clear_now)
      (timed_run plan (later ++ base) ok taken dark_here p) last.ahead it.green (omega (arith, most, long))
    where
      at_most : {x y : ℕ} → x ≡ y → x ≤ y
      at_most e = omega (arith, e)

pub forced_may_end : (plan : Plan) (base later : List Input) (row : Row) (p n : ℕ) → IsConsistent plan → plan.phase_count ≤ 16 →
    AreTaken plan (later ++ base) → IsUntripped plan base later → HasGoneOn (is_pressed_in_pattern p) plan base (Tick row ∷ later) →
    IsForcedWithin (replay plan base) p n → (replay plan base).now + n ≤ (replay plan (later ++ base)).now →
    ready (replay plan (later ++ base)) row p ≡ true
forced_may_end plan base later row p n ok few taken dark pressed most long =
    ready_at_last plan base most.tick p n (walk (replay plan base).plan p) (pedestrian_clear (replay plan base).plan p) ok few most.forced most.later most.soon most.walk
    refl refl later row taken dark pressed most.initial long
