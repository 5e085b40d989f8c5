-- A walk or a pedestrian clearance that is shown to have so much left ends then.
use Rattle.std.proofs.Common.{◌≡◌, ◌≢◌, ℕ, ◌+◌, ◌-◌, ◌<◌, ◌≤◌, ◌==◌, nat_le, Bool, true, false, if◌then◌else◌, max, List, ◌∷◌, ◌++◌, None, refl, sym, ap, arith, ◌∙◌}
use Rattle.std.proofs.lemmas.Bool.{true≢false}
use Rattle.tsb_step.specs.tsb_cells.declared.timer.Timer.TheVariants.{On}
use Rattle.tsb_step.specs.tsb_cells.Timer.{has_reached}
use Rattle.tsb_step.specs.tsb_types.declared.interval.Interval.TheVariants.{Green}
use Rattle.tsb_step.specs.tsb_types.declared.interval.PedestrianInterval.{PedestrianInterval}
use Rattle.tsb_step.specs.tsb_types.declared.interval.PedestrianInterval.TheVariants.{DontWalk, Walk, PedestrianClear}
use Rattle.tsb_step.specs.tsb_types.declared.row.Row.{Row}
use Rattle.tsb_step.specs.tsb_types.Intervals.{is_green, is_walk, is_clearance}
use Rattle.tsb_step.specs.tsb_plan.Plan.{Plan}
use Rattle.tsb_step.specs.tsb_phase.Pedestrian.{ended_by, walk_time, clearance_time, is_resting_in_walk, walk_has_ended, clearance_has_ended, pedestrian_now, pedestrian_timer_in}
use Rattle.tsb_step.specs.tsb_phase.Phase.{Phase}
use Rattle.tsb_step.specs.tsb_ring.Moves.{is_ended, is_started}
use Rattle.tsb_step.specs.tsb_ring.Rings.{Ring}
use Rattle.tsb_step.specs.declared.inputs.Input.{Input}
use Rattle.tsb_step.specs.declared.inputs.Input.TheVariants.{Tick}
use Rattle.tsb_step.specs.State.{State, interval, pedestrian_part}
use Rattle.tsb_step.specs.Status.{status, serving, walk_left, clearance_left}
use Rattle.tsb_step.specs.Tick.{phases_given, phase_read, moves, next}
use Rattle.tsb_step.specs.Step.{step}
use Rattle.tsb_step.specs.Waits.{left, phases_again}
use Rattle.tsb_step.specs.Runs.{replay, AreTaken}
use Rattle.tsb_step.specs.Laws.{IsConsistent}
use Rattle.tsb_step.specs.Good.{IsGood}
use Rattle.tsb_step.specs.TimeLaws.{is_tick}
use Rattle.tsb_step.proofs.ClearLemmas.{phases_then}
use Rattle.tsb_step.proofs.EndLemmas.{walks_in_green}
use Rattle.tsb_step.proofs.GoodLemmas.{good_run}
use Rattle.tsb_step.proofs.TellLemmas.{starts_no_green}
use Rattle.tsb_step.proofs.WaitedLemmas.{ended_has_lasted}
use Rattle.tsb_laws.specs.Stretches.{IsUntripped}
use Rattle.tsb_laws.specs.TimesLeft.{IsShown, InEachTick, EndsThen, KeepsWalk, KeepsClearance}
use Rattle.tsb_laws.proofs.operation.step.PhaseTimeLemmas.{Runs}
use Rattle.tsb_laws.proofs.operation.green.PressedRunLemmas.{phase_stays}
use Rattle.tsb_laws.proofs.times_left.CountLemmas.{timed_first, counted, ended, where_shown, left_on, not_long, long}

-- ## A tick of a green

-- its pedestrian part after the tick is the one that phase timing finds, and it has ended only in DontWalk
record GreenTick (s : State) (row : Row) (p : ℕ) : Type 0 where
  part : pedestrian_part (step s (Tick row)) p ≡ pedestrian_now s.plan (phases_given s row) p (phase_read s p)
  timer : pedestrian_now s.plan (phases_given s row) p (phase_read s p) ≢ DontWalk → ((step s (Tick row)).phases p).pedestrian_timer
      ≡ pedestrian_timer_in (s.phases p).pedestrian (pedestrian_now s.plan (phases_given s row) p (phase_read s p)) (phase_read s p).pedestrian_timer

green_tick : (s : State) (row : Row) (p : ℕ) → IsGood s → s.trip ≡ None → interval s p ≡ Green → GreenTick s row p
green_tick s row p good dark e = go (is_started (moves s row) p) (is_ended (moves s row) p) refl refl
  where
    same : (step s (Tick row)).phases p ≡ (next s row).phases p
    same = ap (λ (f : ℕ → Phase). f p) (phases_then s row dark)

    go : (starts ends : Bool) → is_started (moves s row) p ≡ starts → is_ended (moves s row) p ≡ ends → GreenTick s row p
    go true ends k l = absurd (true≢false (sym (ap is_green e) ∙ starts_no_green s row p good k))
    go false true k l =
        let dark_part : pedestrian_part (next s row) p ≡ DontWalk = rw (k, e, l) refl in
        let still : pedestrian_now s.plan (phases_given s row) p (phase_read s p) ≡ DontWalk = (ended_has_lasted s row p l).dont_walk in
        record { part = ap (λ (y : Phase). y.pedestrian) same ∙ dark_part ∙ sym still; timer = λ h. absurd (h still) }
    go false false k l =
        let now : pedestrian_part (next s row) p ≡ pedestrian_now s.plan (phases_given s row) p (phase_read s p) = rw (k, e, l) refl in
        let runs : ((next s row).phases p).pedestrian_timer
        ≡ pedestrian_timer_in (s.phases p).pedestrian (pedestrian_now s.plan (phases_given s row) p (phase_read s p)) (phase_read s p).pedestrian_timer =
        rw (k, e, l) refl in
        record { part = ap (λ (y : Phase). y.pedestrian) same ∙ now; timer = λ h. ap (λ (y : Phase). y.pedestrian_timer) same ∙ runs }

-- ## Walk

-- a walk for so many ticks
record WalksFor (p n : ℕ) (s : State) : Type 0 where
  walks : pedestrian_part s p ≡ Walk
  timer : (s.phases p).pedestrian_timer ≡ On n

walks_over_others : (p n : ℕ) (s : State) (i : Input) → is_tick i ≡ false → s.trip ≡ None → WalksFor p n s → WalksFor p n (step s i)
walks_over_others p n s i t dark x = record {
  walks = phase_stays (λ y. y.pedestrian) (λ y f. refl) s i p t dark ∙ x.walks;
  timer = phase_stays (λ y. y.pedestrian_timer) (λ y f. refl) s i p t dark ∙ x.timer;
}

-- in the tick the walk has lasted its time, or not
walked_by : (s : State) (row : Row) (p n time : ℕ) → walk_time s.plan p (ended_by (phases_given s row) p) ≡ time → WalksFor p n s →
    has_reached (phase_read s p).pedestrian_timer (walk_time s.plan p (ended_by (phases_given s row) p)) ≡ nat_le time (n + 1)
walked_by s row p n time same x = rw (x.timer, same) refl

walk_goes_on : (s : State) (row : Row) (p n time : ℕ) → IsGood s → s.trip ≡ None → walk_time s.plan p (ended_by (phases_given s row) p) ≡ time →
    n + 1 < time → WalksFor p n s → WalksFor p (n + 1) (step s (Tick row))
unfolding pedestrian_now
walk_goes_on s row p n time good dark same early x =
    let tick : GreenTick s row p = green_tick s row p good dark (walks_in_green s p good (λ h. dark_not h)) in
    record {
      walks = tick.part ∙ now;
      timer = tick.timer (λ h. dark_now_not h) ∙ rw (now, x.walks, x.timer) refl;
    }
  where
    dark_not : pedestrian_part s p ≡ DontWalk → ⊥
    dark_not h = let bad : Walk ≡ DontWalk = sym x.walks ∙ h in absurd cc

    late : walk_has_ended s.plan (phases_given s row) p (phase_read s p) ≡ false
    late = rw (walked_by s row p n time same x, not_long time (n + 1) early) refl

    now : pedestrian_now s.plan (phases_given s row) p (phase_read s p) ≡ Walk
    now = rw (x.walks, late) refl

    dark_now_not : pedestrian_now s.plan (phases_given s row) p (phase_read s p) ≡ DontWalk → ⊥
    dark_now_not h = let bad : Walk ≡ DontWalk = sym now ∙ h in absurd cc

walk_ends : (s : State) (row : Row) (p n time : ℕ) → IsGood s → s.trip ≡ None → walk_time s.plan p (ended_by (phases_given s row) p) ≡ time →
    time ≤ n + 1 → is_resting_in_walk s.plan (phases_given s row) p ≡ false → WalksFor p n s → is_walk (pedestrian_part (step s (Tick row)) p) ≡ false
unfolding pedestrian_now
walk_ends s row p n time good dark same late moves_on x =
    let tick : GreenTick s row p = green_tick s row p good dark (walks_in_green s p good (λ h. dark_not h)) in
    ap is_walk tick.part ∙ rw (x.walks, over) (go (clearance_time s.plan p (ended_by (phases_given s row) p) == 0))
  where
    dark_not : pedestrian_part s p ≡ DontWalk → ⊥
    dark_not h = let bad : Walk ≡ DontWalk = sym x.walks ∙ h in absurd cc

    over : walk_has_ended s.plan (phases_given s row) p (phase_read s p) ≡ true
    over = rw (walked_by s row p n time same x, long time (n + 1) late, moves_on) refl

    go : (b : Bool) → is_walk (if b then DontWalk else PedestrianClear) ≡ false
    go true = refl
    go false = refl

shown_walk : (s : State) (r : Ring) (p n : ℕ) → IsShown s r p (λ x. x.walk_left) n → (pedestrian_part s p ≡ Walk) × (walk_left s p ≡ n)
unfolding status
shown_walk s r p n x =
    let it = where_shown (λ q. is_walk (pedestrian_part s q)) (walk_left s) (serving s r) p n x.phase x.left in
    (named (pedestrian_part s p) it.0, it.1)
  where
    named : (part : PedestrianInterval) → is_walk part ≡ true → part ≡ Walk
    named Walk h = refl
    named part h = cc

pub walks_end : (plan : Plan) (base later : List Input) (r : Ring) (p n : ℕ) → IsConsistent plan → AreTaken plan (later ++ base) →
    IsUntripped plan base later → IsShown (replay plan base) r p (λ x. x.walk_left) n →
    InEachTick (KeepsWalk p n (replay plan base)) plan base later → EndsThen (λ s. is_walk (pedestrian_part s p)) plan base later n
walks_end plan base later r p n ok taken dark shown each = record {
  before = λ early. ap is_walk (counted plan base (KeepsWalk p n (replay plan base)) (WalksFor p) limit run.count others goes begins later taken dark each
      (omega (arith, some, early))).walks;
  at_end = λ now. ended plan base (KeepsWalk p n (replay plan base)) (WalksFor p) limit run.count others goes begins
      (λ s. is_walk (pedestrian_part s p) ≡ false) (λ s i t still x. ap is_walk (phase_stays (λ y. y.pedestrian) (λ y f. refl) s i p t still) ∙ x)
      ends later taken dark each (omega (arith, some, now));
}
  where
    limit : ℕ
    limit = walk_time (replay plan base).plan p (ended_by (phases_again (replay plan base)) p)

    parts : (pedestrian_part (replay plan base) p ≡ Walk) × (walk_left (replay plan base) p ≡ n)
    parts = shown_walk (replay plan base) r p n shown

    run : Runs ((replay plan base).phases p).pedestrian_timer
    run = (timed_first plan base later ok taken dark p).walk parts.0

    some : limit - run.count ≡ n
    some = left_on limit n run.count ((replay plan base).phases p).pedestrian_timer run.is parts.1

    begins : WalksFor p run.count (replay plan base)
    begins = record { walks = parts.0; timer = run.is }

    others : (k : ℕ) (s : State) (i : Input) → is_tick i ≡ false → s.trip ≡ None → WalksFor p k s → WalksFor p k (step s i)
    others k s i t still x = walks_over_others p k s i t still x

    goes : (is : List Input) (row : Row) (k : ℕ) → AreTaken plan is → (replay plan is).trip ≡ None →
        KeepsWalk p n (replay plan base) (replay plan is) row → k + 1 < limit → WalksFor p k (replay plan is) →
        WalksFor p (k + 1) (replay plan (Tick row ∷ is))
    goes is row k has still keeps early x = walk_goes_on (replay plan is) row p k limit (good_run plan is ok has) still keeps.time early x

    ends : (is : List Input) (row : Row) (k : ℕ) → AreTaken plan is → (replay plan is).trip ≡ None → KeepsWalk p n (replay plan base) (replay plan is) row →
        (replay plan is).now + 1 ≡ (replay plan base).now + max 1 (limit - run.count) → limit ≤ k + 1 → WalksFor p k (replay plan is) →
        is_walk (pedestrian_part (replay plan (Tick row ∷ is)) p) ≡ false
    ends is row k has still keeps last late x =
        walk_ends (replay plan is) row p k limit (good_run plan is ok has) still keeps.time late (keeps.moves_on (omega (arith, some, last))) x

-- ## Pedestrian clearance

-- a pedestrian clearance for so many ticks
record WalksOffFor (p n : ℕ) (s : State) : Type 0 where
  clears : pedestrian_part s p ≡ PedestrianClear
  timer : (s.phases p).pedestrian_timer ≡ On n

off_over_others : (p n : ℕ) (s : State) (i : Input) → is_tick i ≡ false → s.trip ≡ None → WalksOffFor p n s → WalksOffFor p n (step s i)
off_over_others p n s i t dark x = record {
  clears = phase_stays (λ y. y.pedestrian) (λ y f. refl) s i p t dark ∙ x.clears;
  timer = phase_stays (λ y. y.pedestrian_timer) (λ y f. refl) s i p t dark ∙ x.timer;
}

cleared_by : (s : State) (row : Row) (p n time : ℕ) → clearance_time s.plan p (ended_by (phases_given s row) p) ≡ time → WalksOffFor p n s →
    clearance_has_ended s.plan (phases_given s row) p (phase_read s p) ≡ nat_le time (n + 1)
cleared_by s row p n time same x = rw (x.timer, same) refl

module _ (s : State) (row : Row) (p n time : ℕ) (good : IsGood s) (dark : s.trip ≡ None)
    (same : clearance_time s.plan p (ended_by (phases_given s row) p) ≡ time) (x : WalksOffFor p n s) where
  clear_tick : GreenTick s row p
  clear_tick = green_tick s row p good dark (walks_in_green s p good dark_not)
    where
      dark_not : pedestrian_part s p ≡ DontWalk → ⊥
      dark_not h = let bad : PedestrianClear ≡ DontWalk = sym x.clears ∙ h in absurd cc

  clearance_goes_on : n + 1 < time → WalksOffFor p (n + 1) (step s (Tick row))
  unfolding pedestrian_now
  clearance_goes_on early = record { clears = clear_tick.part ∙ now; timer = clear_tick.timer dark_now_not ∙ rw (now, x.clears, x.timer) refl }
    where
      late : clearance_has_ended s.plan (phases_given s row) p (phase_read s p) ≡ false
      late = cleared_by s row p n time same x ∙ not_long time (n + 1) early

      now : pedestrian_now s.plan (phases_given s row) p (phase_read s p) ≡ PedestrianClear
      now = rw (x.clears, late) refl

      dark_now_not : pedestrian_now s.plan (phases_given s row) p (phase_read s p) ≡ DontWalk → ⊥
      dark_now_not h = let bad : PedestrianClear ≡ DontWalk = sym now ∙ h in absurd cc

  clearance_ends : time ≤ n + 1 → is_clearance (pedestrian_part (step s (Tick row)) p) ≡ false
  unfolding pedestrian_now
  clearance_ends late = ap is_clearance clear_tick.part ∙ rw (x.clears, over) refl
    where
      over : clearance_has_ended s.plan (phases_given s row) p (phase_read s p) ≡ true
      over = cleared_by s row p n time same x ∙ long time (n + 1) late

shown_clearance : (s : State) (r : Ring) (p n : ℕ) → IsShown s r p (λ x. x.clearance_left) n →
    (pedestrian_part s p ≡ PedestrianClear) × (clearance_left s p ≡ n)
unfolding status
shown_clearance s r p n x =
    let it = where_shown (λ q. is_clearance (pedestrian_part s q)) (clearance_left s) (serving s r) p n x.phase x.left in
    (named (pedestrian_part s p) it.0, it.1)
  where
    named : (part : PedestrianInterval) → is_clearance part ≡ true → part ≡ PedestrianClear
    named PedestrianClear h = refl
    named part h = cc

pub clearances_end : (plan : Plan) (base later : List Input) (r : Ring) (p n : ℕ) → IsConsistent plan → AreTaken plan (later ++ base) →
    IsUntripped plan base later → IsShown (replay plan base) r p (λ x. x.clearance_left) n →
    InEachTick (KeepsClearance p (replay plan base)) plan base later → EndsThen (λ s. is_clearance (pedestrian_part s p)) plan base later n
clearances_end plan base later r p n ok taken dark shown each = record {
  before = λ early. ap is_clearance (counted plan base (KeepsClearance p (replay plan base)) (WalksOffFor p) limit run.count others goes begins later taken dark each
      (omega (arith, some, early))).clears;
  at_end = λ now. ended plan base (KeepsClearance p (replay plan base)) (WalksOffFor p) limit run.count others goes begins
      (λ s. is_clearance (pedestrian_part s p) ≡ false) (λ s i t still x. ap is_clearance (phase_stays (λ y. y.pedestrian) (λ y f. refl) s i p t still) ∙ x)
      (λ is row k has still time last late x. clearance_ends (replay plan is) row p k limit (good_run plan is ok has) still time x late)
      later taken dark each (omega (arith, some, now));
}
  where
    limit : ℕ
    limit = clearance_time (replay plan base).plan p (ended_by (phases_again (replay plan base)) p)

    parts : (pedestrian_part (replay plan base) p ≡ PedestrianClear) × (clearance_left (replay plan base) p ≡ n)
    parts = shown_clearance (replay plan base) r p n shown

    run : Runs ((replay plan base).phases p).pedestrian_timer
    run = (timed_first plan base later ok taken dark p).clearance parts.0

    some : limit - run.count ≡ n
    some = left_on limit n run.count ((replay plan base).phases p).pedestrian_timer run.is parts.1

    begins : WalksOffFor p run.count (replay plan base)
    begins = record { clears = parts.0; timer = run.is }

    others : (k : ℕ) (s : State) (i : Input) → is_tick i ≡ false → s.trip ≡ None → WalksOffFor p k s → WalksOffFor p k (step s i)
    others k s i t still x = off_over_others p k s i t still x

    goes : (is : List Input) (row : Row) (k : ℕ) → AreTaken plan is → (replay plan is).trip ≡ None → KeepsClearance p (replay plan base) (replay plan is) row →
        k + 1 < limit → WalksOffFor p k (replay plan is) → WalksOffFor p (k + 1) (replay plan (Tick row ∷ is))
    goes is row k has still time early x = clearance_goes_on (replay plan is) row p k limit (good_run plan is ok has) still time x early
