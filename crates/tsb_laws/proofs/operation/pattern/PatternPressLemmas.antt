-- A green that has had a conflict in each tick of a pattern for long enough has its initial time, its walk and its
-- pedestrian clearance behind it, and its conflict has lasted as long: along a run, over inputs of every kind but those
-- that select a pattern or commit. For `floating_greens_are_ready`, `maximums_end_greens_in_patterns` and
-- `permissive_times_let_calls_in`.
use Rattle.std.proofs.Common.{◌≡◌, ℕ, ◌+◌, ◌-◌, ◌≤◌, nat_le, Bool, true, false, ◌&&◌, List, [], ◌∷◌, ◌++◌, Option, Some, None, is_some, refl, sym, ap, subst, arith, ◌∙◌, inl, inr}
use Rattle.std.proofs.lemmas.Bool.{cases_Bool, true≢false}
use Rattle.std.proofs.lemmas.Bool.Decides.{nat_tests}
use Rattle.tsb_step.specs.tsb_cells.declared.timer.Timer.{Timer}
use Rattle.tsb_step.specs.tsb_cells.declared.timer.Timer.TheVariants.{On}
use Rattle.tsb_step.specs.tsb_cells.Timer.{advanced}
use Rattle.tsb_step.specs.tsb_types.declared.interval.Interval.TheVariants.{Green}
use Rattle.tsb_step.specs.tsb_types.declared.interval.PedestrianInterval.TheVariants.{DontWalk}
use Rattle.tsb_step.specs.tsb_types.declared.row.Row.{Row}
use Rattle.tsb_step.specs.tsb_types.Intervals.{is_green, in_service}
use Rattle.tsb_step.specs.tsb_types.Sets.{is_phase}
use Rattle.tsb_step.specs.tsb_plan.Plan.{Plan, walk, pedestrian_clear, recycles_walk}
use Rattle.tsb_step.specs.tsb_plan.Running.{is_coordinated_now}
use Rattle.tsb_step.specs.tsb_coord.Coordinated.{local_in, asks_hold, recycles}
use Rattle.tsb_step.specs.tsb_coord.Correction.{is_in_step}
use Rattle.tsb_step.specs.tsb_phase.Phase.{Phase, held_of}
use Rattle.tsb_step.specs.tsb_phase.Green.{initial, initial_has_passed}
use Rattle.tsb_step.specs.tsb_phase.Pedestrian.{pedestrian_now}
use Rattle.tsb_step.specs.tsb_ring.Moves.{is_started}
use Rattle.tsb_step.specs.declared.inputs.Input.{Input}
use Rattle.tsb_step.specs.declared.inputs.Input.TheVariants as inputs
use Rattle.tsb_step.specs.declared.inputs.Input.TheVariants.{Tick}
use Rattle.tsb_step.specs.State.{State, interval}
use Rattle.tsb_step.specs.Tick.{service, runs, hold, recycle, conflict, phases_given, phase_read, moves, next}
use Rattle.tsb_step.specs.Runs.{replay, AreTaken}
use Rattle.tsb_step.specs.Laws.{IsConsistent}
use Rattle.tsb_step.specs.Good.{IsGood}
use Rattle.tsb_step.proofs.ClearLemmas.{phases_then, one_later, plan_stays, pattern_stays}
use Rattle.tsb_step.proofs.GoodLemmas.{good_run}
use Rattle.tsb_step.proofs.TellLemmas.{starts_no_green}
use Rattle.tsb_laws.specs.Stretches.{IsUntripped}
use Rattle.tsb_laws.proofs.operation.pattern.InStepLemmas.{clocked_in}
use Rattle.tsb_laws.specs.ServedCalls.{longest_initial}
use Rattle.tsb_laws.specs.CoordinatedGreens.{HasGoneOn, is_pressed_in_pattern}
use Rattle.tsb_laws.specs.PatternEnds.{HasWaitedInPattern}
use Rattle.tsb_laws.proofs.safety.StretchLemmas.{dark_now, at_next}
use Rattle.tsb_laws.proofs.safety.DueLemmas.{count_run}
use Rattle.tsb_laws.proofs.operation.step.PhaseTimeLemmas.{left, Runs, IsTimed}
use Rattle.tsb_laws.proofs.operation.green.PressedGreenLemmas.{pressed_left, initial_most, rests_not, walks_not, presses_down_quiet}
use Rattle.tsb_laws.proofs.operation.green.WalkTimeLemmas.{stays_dark, walks_no_more}
use Rattle.tsb_laws.proofs.operation.green.PressedRunLemmas.{timed_run, pressed_most, is_one, not_ended}
use Rattle.tsb_laws.proofs.operation.pattern.CoordinatedForceLemmas.{ended_by_none, told_conflict}
use Rattle.tsb_laws.proofs.operation.pattern.CoordinatedRunLemmas.{Leaves, leaves, IsPressed, pressed_parts}

-- ## Plan and pattern

-- they are those of the base
pub record IsSame (plan : Plan) (base later : List Input) : Type 0 where
  pub plan_is : (replay plan (later ++ base)).plan ≡ (replay plan base).plan
  pub pattern_is : (replay plan (later ++ base)).pattern ≡ (replay plan base).pattern

pub same_on : (plan : Plan) (base later : List Input) (p : ℕ) → IsUntripped plan base later → HasGoneOn (is_pressed_in_pattern p) plan base later →
    IsSame plan base later
same_on plan base [] p dark pressed = record { plan_is = refl; pattern_is = refl }
same_on plan base (inputs.Tick row ∷ later) p dark pressed =
    let before : IsSame plan base later = same_on plan base later p dark.0 pressed.0 in
    record {
      plan_is = plan_stays (replay plan (later ++ base)) row ∙ before.plan_is;
      pattern_is = pattern_stays (replay plan (later ++ base)) row ∙ before.pattern_is;
    }
same_on plan base (i ∷ later) p dark pressed =
    let before : IsSame plan base later = same_on plan base later p dark.0 pressed.0 in
    let it : Leaves (replay plan (later ++ base)) (replay plan (i ∷ (later ++ base))) p =
    leaves (replay plan (later ++ base)) i p refl pressed.1 (dark_now plan base later dark.0) in
    record { plan_is = it.plan ∙ before.plan_is; pattern_is = it.pattern ∙ before.pattern_is }

-- and so are the coordinated phases
pub held_as : (plan : Plan) (base later : List Input) (p : ℕ) → IsSame plan base later → hold (replay plan (later ++ base)) p ≡ hold (replay plan base) p
held_as plan base later p same =
    ap (λ (x : Plan). asks_hold x (replay plan (later ++ base)).pattern p) same.plan_is
    ∙ ap (λ (o : Option ℕ). asks_hold (replay plan base).plan o p) same.pattern_is

-- no other phase has pedestrian recycle
others_not : (s : State) (p : ℕ) → hold s p ≡ false → recycle s p ≡ false
others_not s p other = ap (λ (b : Bool). is_in_step s.plan s.pattern s.correction (s.now + 1 - 1) && b) (go (runs s) other) ∙ never_both (is_in_step s.plan s.pattern s.correction (s.now + 1 - 1))
  where
    never_both : (b : Bool) → (b && false) ≡ false
    never_both true = refl
    never_both false = refl

    go : (o : Option ℕ) → is_coordinated_now s.plan o p ≡ false → recycles s.plan o (local_in s.plan (clocked_in s (s.now + 1)) o) p ≡ false
    go None h = refl
    go (Some n) h = rw h (never (recycles_walk s.plan p) _)
      where
        never : (a b : Bool) → ((a && false) && b) ≡ false
        never true b = refl
        never false b = refl

-- ## Along a stretch

module _ (plan : Plan) (base : List Input) (p n a b : ℕ) (ok : IsConsistent plan) (few : plan.phase_count ≤ 16) (both : a + b ≤ n)
    (walk_in : walk (replay plan base).plan p ≤ a) (clear_in : pedestrian_clear (replay plan base).plan p ≤ b) (other : hold (replay plan base) p ≡ false) where
  abbrev left_after : List Input → ℕ
  left_after is = pressed_left n n a b ((replay plan is).phases p)

  one_now : (is : List Input) → AreTaken plan is → interval (replay plan is) p ≡ Green → is_phase p ≡ true
  one_now is taken e =
      is_one (replay plan is).plan p (let same = count_run plan is in omega (arith, same, few))
      ((good_run plan is ok taken).rings.listed p (ap in_service e))

  -- a tick of the stretch
  one_less : (row : Row) (is : List Input) → AreTaken plan is → (replay plan is).trip ≡ None → IsPressed (replay plan is) row p →
      (replay plan is).plan ≡ (replay plan base).plan → hold (replay plan is) p ≡ false → interval (replay plan (Tick row ∷ is)) p ≡ Green →
      left_after is ≤ (replay plan base).now + n - (replay plan is).now →
      left_after (Tick row ∷ is) ≤ (replay plan base).now + n - (replay plan (Tick row ∷ is)).now
  one_less row is taken dark it plan_is other_now green before =
      let now : (replay plan (Tick row ∷ is)).now ≡ (replay plan is).now + 1 = one_later (replay plan is) row in
      let same : left_after (Tick row ∷ is) ≡ pressed_left n n a b ((next (replay plan is) row).phases p) =
      ap (λ (f : ℕ → Phase). pressed_left n n a b (f p)) (phases_then (replay plan is) row dark) in
      omega (arith, now, same, down, before)
    where
      good : IsGood (replay plan is)
      good = good_run plan is ok taken

      still_green : interval (next (replay plan is) row) p ≡ Green
      still_green = sym (at_next (replay plan is) row p dark) ∙ green

      no_start : is_started (moves (replay plan is) row) p ≡ false
      no_start =
          elim (cases_Bool (is_started (moves (replay plan is) row) p)) [
            | inl h ↦ absurd (true≢false (sym (ap is_green it.green) ∙ starts_no_green (replay plan is) row p good h))
            | inr h ↦ h
          ]

      down : pressed_left n n a b ((next (replay plan is) row).phases p) ≤ left_after is - 1
      down =
          presses_down_quiet (replay plan is) row p (one_now is taken it.green) it.conflict it.quiet
          (walks_not (replay plan is) row p (others_not (replay plan is) p other_now)) n n a b
          (subst (λ (x : Plan). walk x p ≤ a) (sym plan_is) walk_in) (subst (λ (x : Plan). pedestrian_clear x p ≤ b) (sym plan_is) clear_in)
          (timed_run plan is ok taken dark p) it.green (not_ended (replay plan is) row p it.green no_start still_green) no_start

  -- any other input
  none_less : (i : Input) (is : List Input) → Leaves (replay plan is) (replay plan (i ∷ is)) p →
      left_after is ≤ (replay plan base).now + n - (replay plan is).now →
      left_after (i ∷ is) ≤ (replay plan base).now + n - (replay plan (i ∷ is)).now
  none_less i is it before =
      let now : (replay plan (i ∷ is)).now ≡ (replay plan is).now = it.now in
      let same : left_after (i ∷ is) ≡ left_after is = ap (λ (x : Phase). pressed_left n n a b x) it.phase in
      omega (arith, now, same, before)

  lasts : (later : List Input) → AreTaken plan (later ++ base) → IsUntripped plan base later → HasGoneOn (is_pressed_in_pattern p) plan base later →
      interval (replay plan (later ++ base)) p ≡ Green → left_after (later ++ base) ≤ (replay plan base).now + n - (replay plan (later ++ base)).now
  lasts [] taken dark pressed green =
      let all : left_after base ≤ n = pressed_most n n a b n ((replay plan base).phases p) (omega arith) (omega arith) both in omega (arith, all)
  lasts (inputs.Tick row ∷ later) taken dark pressed green =
      let it : IsPressed (replay plan (later ++ base)) row p = pressed_parts (replay plan (later ++ base)) row p pressed.1 in
      let same : IsSame plan base later = same_on plan base later p dark.0 pressed.0 in
      one_less row (later ++ base) taken.0 (dark_now plan base later dark.0) it same.plan_is (held_as plan base later p same ∙ other) green
      (lasts later taken.0 dark.0 pressed.0 it.green)
  lasts (i ∷ later) taken dark pressed green =
      let it : Leaves (replay plan (later ++ base)) (replay plan (i ∷ (later ++ base))) p =
      leaves (replay plan (later ++ base)) i p refl pressed.1 (dark_now plan base later dark.0) in
      none_less i (later ++ base) it
      (lasts later taken.0 dark.0 pressed.0 (sym (ap (λ (x : Phase). x.interval) it.phase) ∙ green))

-- ## What a green has behind it

pub record HasItBehind (s : State) (row : Row) (p n : ℕ) : Type 0 where
  pub green : interval s p ≡ Green
  pub conflict : conflict s row p ≡ true
  pub running : is_some (runs s) ≡ true
  pub quiet : service s row ≡ None
  pub on : is_phase p ≡ true
  pub initial : initial_has_passed s.plan (phases_given s row) p (held_of (phase_read s p)) ≡ true
  pub dont_walk : pedestrian_now s.plan (phases_given s row) p (phase_read s p) ≡ DontWalk
  pub long : left n (s.phases p).conflict ≡ 0

module _ (s : State) (row : Row) (p n a b : ℕ) (on : is_phase p ≡ true) (it : IsPressed s row p) (timed : IsTimed (s.phases p))
    (most_i : longest_initial s.plan p ≤ n) (most_a : walk s.plan p ≤ a) (most_b : pedestrian_clear s.plan p ≤ b) (other : hold s p ≡ false) where
  pub behind : pressed_left n n a b (s.phases p) ≡ 0 → HasItBehind s row p n
  unfolding pressed_left
  behind none = record {
    green = it.green;
    conflict = it.conflict;
    running = it.runs;
    quiet = it.quiet;
    on = on;
    initial = rw now reached;
    dont_walk = walks_no_more s.plan (phases_given s row) p (phase_read s p) None (ended_by_none s row p on it.conflict it.quiet)
        (rests_not s.plan (phases_given s row) p (told_conflict s row p on it.conflict it.quiet)) (stays_dark (phases_given s row) p (phase_read s p) (walks_not s row p (others_not s p other))) a b most_a most_b (s.phases p).pedestrian_timer refl timed.walk timed.clearance
        (omega (arith, none));
    long = omega (arith, none);
  }
    where
      run : Runs (s.phases p).timer
      run = timed.green it.green

      now : (phase_read s p).timer ≡ On (run.count + 1)
      now = ap advanced run.is

      reached : nat_le (initial s.plan p ((phases_given s row).count p)) (run.count + 1) ≡ true
      reached =
          let second : left n (s.phases p).timer ≡ 0 = omega (arith, none) in
          let zero : left n (On run.count) ≡ 0 = sym (ap (λ (x : Timer). left n x) run.is) ∙ second in
          let most : initial s.plan p ((phases_given s row).count p) ≤ longest_initial s.plan p = initial_most s.plan p ((phases_given s row).count p) in
          grind (arith, nat_tests, zero, most, most_i)

pub has_it_behind : (plan : Plan) (base later : List Input) (row : Row) (p n : ℕ) → IsConsistent plan → plan.phase_count ≤ 16 →
    AreTaken plan (later ++ base) → IsUntripped plan base later → HasWaitedInPattern plan base later row p n → hold (replay plan base) p ≡ false →
    HasItBehind (replay plan (later ++ base)) row p n
has_it_behind plan base later row p n ok few taken dark waited other =
    behind (replay plan (later ++ base)) row p n (walk (replay plan base).plan p) (pedestrian_clear (replay plan base).plan p)
    (one_now plan base p n (walk (replay plan base).plan p) (pedestrian_clear (replay plan base).plan p) ok few waited.walks (omega arith) (omega arith) other (later ++ base) taken it.green)
    it (timed_run plan (later ++ base) ok taken (dark_now plan base later dark) p)
    (subst (λ (x : Plan). longest_initial x p ≤ n) (sym same.plan_is) waited.initial)
    (subst (λ (x : Plan). walk x p ≤ walk (replay plan base).plan p) (sym same.plan_is) (omega arith))
    (subst (λ (x : Plan). pedestrian_clear x p ≤ pedestrian_clear (replay plan base).plan p) (sym same.plan_is) (omega arith))
    (held_as plan base later p same ∙ other)
    (let most = lasts plan base p n (walk (replay plan base).plan p) (pedestrian_clear (replay plan base).plan p) ok few waited.walks (omega arith) (omega arith) other
    later taken dark waited.pressed.0 it.green in
    let long = waited.long in
    omega (arith, most, long))
  where
    it : IsPressed (replay plan (later ++ base)) row p
    it = pressed_parts (replay plan (later ++ base)) row p waited.pressed.1

    same : IsSame plan base later
    same = same_on plan base later p dark waited.pressed.0
