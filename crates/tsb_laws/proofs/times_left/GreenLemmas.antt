-- The initial time, the gap and the maximum of a green that are shown to have so much left have passed then.
use Rattle.std.proofs.Common.{◌≡◌, ℕ, ◌+◌, ◌-◌, ◌<◌, nat_le, Bool, true, false, ◌&&◌, if◌then◌else◌, List, ◌∷◌, ◌++◌, Option, Some, None, option_map, refl, sym, ap, ◌∙◌}
use Rattle.std.proofs.lemmas.Bool.{and_parts, true≢false}
use Rattle.tsb_step.specs.tsb_cells.declared.timer.Timer.{Timer}
use Rattle.tsb_step.specs.tsb_cells.declared.timer.Timer.TheVariants.{Off, On}
use Rattle.tsb_step.specs.tsb_cells.Timer.{is_on, has_reached}
use Rattle.tsb_step.specs.tsb_types.declared.interval.Interval.TheVariants.{Green}
use Rattle.tsb_step.specs.tsb_types.declared.row.Row.{Row}
use Rattle.tsb_step.specs.tsb_types.Intervals.{is_green, is_dont_walk}
use Rattle.tsb_step.specs.tsb_plan.Plan.{Plan}
use Rattle.tsb_step.specs.tsb_phase.Green.{gap, initial_has_passed, acting_maximum}
use Rattle.tsb_step.specs.tsb_phase.Pedestrian.{ended_by, pedestrian_now}
use Rattle.tsb_step.specs.tsb_phase.Phase.{Phase, Given, held_of}
use Rattle.tsb_step.specs.tsb_phase.Ready.{is_ready, green_is_done, may_end}
use Rattle.tsb_step.specs.tsb_ring.Moves.{is_ended, is_started}
use Rattle.tsb_step.specs.tsb_ring.Rings.{Ring}
use Rattle.tsb_step.specs.declared.inputs.Input.{Input}
use Rattle.tsb_step.specs.declared.inputs.Input.TheVariants.{Tick}
use Rattle.tsb_step.specs.State.{State, interval}
use Rattle.tsb_step.specs.Status.{status, serving, where_has, initial_left, maximum_left}
use Rattle.tsb_step.specs.Tick.{runs, phases_given, phase_read, moves, next}
use Rattle.tsb_step.specs.Step.{step}
use Rattle.tsb_step.specs.Waits.{left, gap_left, phases_again, time_to_last}
use Rattle.tsb_step.specs.Runs.{replay, AreTaken}
use Rattle.tsb_step.specs.Laws.{IsConsistent}
use Rattle.tsb_step.specs.Good.{IsGood}
use Rattle.tsb_step.specs.TimeLaws.{is_tick}
use Rattle.tsb_step.proofs.ClearLemmas.{phases_then}
use Rattle.tsb_step.proofs.GoodLemmas.{good_run}
use Rattle.tsb_step.proofs.TellLemmas.{starts_no_green, is_in_green}
use Rattle.tsb_step.proofs.WaitedLemmas.{ended_was_ready}
use Rattle.tsb_laws.specs.Stretches.{IsUntripped}
use Rattle.tsb_laws.specs.TimesLeft.{IsShown, InEachTick, PassesThen, KeepsInitial, has_lasted, KeepsGap, has_gapped, KeepsMaximum, is_maxed_out}
use Rattle.tsb_laws.proofs.operation.step.PhaseTimeLemmas.{Runs}
use Rattle.tsb_laws.proofs.operation.green.PressedRunLemmas.{phase_stays, not_ended}
use Rattle.tsb_laws.proofs.times_left.CountLemmas.{timed_first, passes_then, where_shown, left_on, not_long}

no_start : (s : State) (row : Row) (p : ℕ) → IsGood s → interval s p ≡ Green → is_started (moves s row) p ≡ false
no_start s row p good e = go (is_started (moves s row) p) refl
  where
    go : (b : Bool) → is_started (moves s row) p ≡ b → is_started (moves s row) p ≡ false
    go true k = absurd (true≢false (sym (ap is_green e) ∙ starts_no_green s row p good k))
    go false k = k

-- ## The initial time

-- a green that is ready has lasted its time
ready_has_lasted : (plan : Plan) (given : Given) (p : ℕ) (w : Phase) → is_ready plan given p w ≡ true →
    has_reached w.timer (time_to_last plan given p (ended_by given p)) ≡ true
unfolding is_ready
ready_has_lasted plan given p w h =
    go (ended_by given p) (and_parts (is_dont_walk (pedestrian_now plan given p w)) _ (and_parts (is_green w.interval) _ h).1).1
  where
    go : (o : Option ℕ) → green_is_done plan given p w o ≡ true → has_reached w.timer (time_to_last plan given p o) ≡ true
    go None k = (and_parts (initial_has_passed plan given p (held_of w)) (may_end plan given p w) k).0
    go (Some n) k = k

-- a green for so many ticks
record IsGreenFor (p n : ℕ) (s : State) : Type 0 where
  green : interval s p ≡ Green
  timer : (s.phases p).timer ≡ On n

green_over_others : (p n : ℕ) (s : State) (i : Input) → is_tick i ≡ false → s.trip ≡ None → IsGreenFor p n s → IsGreenFor p n (step s i)
green_over_others p n s i t dark x = record {
  green = phase_stays (λ y. y.interval) (λ y f. refl) s i p t dark ∙ x.green;
  timer = phase_stays (λ y. y.timer) (λ y f. refl) s i p t dark ∙ x.timer;
}

lasted_by : (s : State) (row : Row) (p n time : ℕ) → time_to_last s.plan (phases_given s row) p (ended_by (phases_given s row) p) ≡ time →
    IsGreenFor p n s → has_lasted p s row ≡ nat_le time (n + 1)
lasted_by s row p n time same x = rw (x.timer, same) refl

green_goes_on : (s : State) (row : Row) (p n time : ℕ) → IsGood s → s.trip ≡ None →
    time_to_last s.plan (phases_given s row) p (ended_by (phases_given s row) p) ≡ time → n + 1 < time → IsGreenFor p n s →
    IsGreenFor p (n + 1) (step s (Tick row))
green_goes_on s row p n time good dark same early x = go (is_ended (moves s row) p) refl
  where
    after : (step s (Tick row)).phases p ≡ (next s row).phases p
    after = ap (λ (f : ℕ → Phase). f p) (phases_then s row dark)

    starts : is_started (moves s row) p ≡ false
    starts = no_start s row p good x.green

    go : (b : Bool) → is_ended (moves s row) p ≡ b → IsGreenFor p (n + 1) (step s (Tick row))
    go true k =
        let lasts : has_lasted p s row ≡ true = ready_has_lasted s.plan (phases_given s row) p (phase_read s p) (ended_was_ready s row p k) in
        absurd (true≢false (sym lasts ∙ lasted_by s row p n time same x ∙ not_long time (n + 1) early))
    go false k =
        let now : interval (next s row) p ≡ Green = rw (starts, x.green, k) refl in
        let runs_on : ((next s row).phases p).timer ≡ On (n + 1) = rw (starts, x.green, k, x.timer) refl in
        record { green = ap (λ (y : Phase). y.interval) after ∙ now; timer = ap (λ (y : Phase). y.timer) after ∙ runs_on }

shown_initial : (s : State) (r : Ring) (p n : ℕ) → IsShown s r p (λ x. x.initial_left) n → (is_green (interval s p) ≡ true) × (initial_left s p ≡ n)
unfolding status
shown_initial s r p n x = where_shown (λ q. is_green (interval s q)) (initial_left s) (serving s r) p n x.phase x.left

pub initials_pass : (plan : Plan) (base later : List Input) (row : Row) (r : Ring) (p n : ℕ) → IsConsistent plan → AreTaken plan (later ++ base) →
    IsUntripped plan base later → IsShown (replay plan base) r p (λ x. x.initial_left) n →
    InEachTick (KeepsInitial p (replay plan base)) plan base (Tick row ∷ later) → PassesThen (has_lasted p) plan base later row n
initials_pass plan base later row r p n ok taken dark shown each =
    passes_then plan base (KeepsInitial p (replay plan base)) (IsGreenFor p) limit run.count others goes begins (has_lasted p)
    (λ is next k has time x. lasted_by (replay plan is) next p k limit time x)
    later row n some taken dark each
  where
    limit : ℕ
    limit = time_to_last (replay plan base).plan (phases_again (replay plan base)) p (ended_by (phases_again (replay plan base)) p)

    parts : (is_green (interval (replay plan base) p) ≡ true) × (initial_left (replay plan base) p ≡ n)
    parts = shown_initial (replay plan base) r p n shown

    green : interval (replay plan base) p ≡ Green
    green = is_in_green (interval (replay plan base) p) parts.0

    run : Runs ((replay plan base).phases p).timer
    run = (timed_first plan base later ok taken dark p).green green

    some : limit - run.count ≡ n
    some = left_on limit n run.count ((replay plan base).phases p).timer run.is parts.1

    begins : IsGreenFor p run.count (replay plan base)
    begins = record { green = green; timer = run.is }

    others : (k : ℕ) (s : State) (i : Input) → is_tick i ≡ false → s.trip ≡ None → IsGreenFor p k s → IsGreenFor p k (step s i)
    others k s i t still x = green_over_others p k s i t still x

    goes : (is : List Input) (row : Row) (k : ℕ) → AreTaken plan is → (replay plan is).trip ≡ None → KeepsInitial p (replay plan base) (replay plan is) row →
        k + 1 < limit → IsGreenFor p k (replay plan is) → IsGreenFor p (k + 1) (replay plan (Tick row ∷ is))
    goes is row k has still time early x = green_goes_on (replay plan is) row p k limit (good_run plan is ok has) still time early x

-- ## A timer of a green

-- while the phase is Green, a timer has run for so many ticks
RunsWhileGreen : (Phase → Timer) → ℕ → ℕ → State → Type 0
RunsWhileGreen of p n s = interval s p ≡ Green → of (s.phases p) ≡ On n

on_runs : (t : Timer) → is_on t ≡ true → Runs t
on_runs Off h = absurd cc
on_runs (On n) h = record { count = n; is = refl }

module _ (plan : Plan) (ok : IsConsistent plan) (of : Phase → Timer) (unforced : (x : Phase) (b : Bool) → of (record x { forced = b }) ≡ of x) (p : ℕ) where
  timer_over_others : (k : ℕ) (s : State) (i : Input) → is_tick i ≡ false → s.trip ≡ None → RunsWhileGreen of p k s → RunsWhileGreen of p k (step s i)
  unfolding RunsWhileGreen
  timer_over_others k s i t still x =
      λ e. phase_stays of unforced s i p t still ∙ x (sym (phase_stays (λ y. y.interval) (λ y f. refl) s i p t still) ∙ e)

  -- a tick of a green that does not end
  timer_goes_on : (is : List Input) (row : Row) (k : ℕ) → AreTaken plan is → (replay plan is).trip ≡ None → interval (replay plan is) p ≡ Green →
      (is_started (moves (replay plan is) row) p ≡ false → is_ended (moves (replay plan is) row) p ≡ false → of ((replay plan is).phases p) ≡ On k →
      of ((next (replay plan is) row).phases p) ≡ On (k + 1)) →
      RunsWhileGreen of p k (replay plan is) → RunsWhileGreen of p (k + 1) (replay plan (Tick row ∷ is))
  unfolding RunsWhileGreen
  timer_goes_on is row k has still green runs_on x = λ e.
      ap (λ (f : ℕ → Phase). of (f p)) (phases_then (replay plan is) row still)
      ∙ runs_on starts (not_ended (replay plan is) row p green starts (sym (ap (λ (f : ℕ → Phase). (f p).interval) (phases_then (replay plan is) row still)) ∙ e)) (x green)
    where
      starts : is_started (moves (replay plan is) row) p ≡ false
      starts = no_start (replay plan is) row p (good_run plan is ok has) green

-- ## The gap

shown_gap : (s : State) (r : Ring) (p n : ℕ) → IsShown s r p (λ x. x.gap_left) n → (is_green (interval s p) ≡ true) × (gap_left s.plan p (s.phases p) ≡ n)
unfolding status
shown_gap s r p n x = where_shown (λ q. is_green (interval s q)) (λ q. gap_left s.plan q (s.phases q)) (serving s r) p n x.phase x.left

gap_by : (plan : Plan) (p n k : ℕ) (x : Phase) → x.passage ≡ On k → gap_left plan p x ≡ n → gap plan p x.reduction - k ≡ n
gap_by plan p n k x e h = rw e at h

pub gaps_expire : (plan : Plan) (base later : List Input) (row : Row) (r : Ring) (p n : ℕ) → IsConsistent plan → AreTaken plan (later ++ base) →
    IsUntripped plan base later → IsShown (replay plan base) r p (λ x. x.gap_left) n → is_on ((replay plan base).phases p).passage ≡ true →
    InEachTick (KeepsGap p (replay plan base)) plan base (Tick row ∷ later) → PassesThen (has_gapped p) plan base later row n
unfolding RunsWhileGreen
gaps_expire plan base later row r p n ok taken dark shown on each =
    passes_then plan base (KeepsGap p (replay plan base)) (RunsWhileGreen (λ y. y.passage) p) limit run.count
    (timer_over_others plan ok (λ y. y.passage) (λ y f. refl) p) goes begins (has_gapped p) reads later row n some taken dark each
  where
    limit : ℕ
    limit = gap (replay plan base).plan p ((replay plan base).phases p).reduction

    run : Runs ((replay plan base).phases p).passage
    run = on_runs ((replay plan base).phases p).passage on

    some : limit - run.count ≡ n
    some = gap_by (replay plan base).plan p n run.count ((replay plan base).phases p) run.is (shown_gap (replay plan base) r p n shown).1

    begins : RunsWhileGreen (λ y. y.passage) p run.count (replay plan base)
    begins = λ e. run.is

    goes : (is : List Input) (row : Row) (k : ℕ) → AreTaken plan is → (replay plan is).trip ≡ None → KeepsGap p (replay plan base) (replay plan is) row →
        k + 1 < limit → RunsWhileGreen (λ y. y.passage) p k (replay plan is) → RunsWhileGreen (λ y. y.passage) p (k + 1) (replay plan (Tick row ∷ is))
    goes is row k has still keeps early x =
        timer_goes_on plan ok (λ y. y.passage) (λ y f. refl) p is row k has still keeps.green
        (λ starts ends timer. rw (starts, keeps.green, ends, keeps.quiet, timer) refl) x

    reads : (is : List Input) (row : Row) (k : ℕ) → AreTaken plan is → KeepsGap p (replay plan base) (replay plan is) row →
        RunsWhileGreen (λ y. y.passage) p k (replay plan is) → has_gapped p (replay plan is) row ≡ nat_le limit (k + 1)
    reads is row k has keeps x = rw (keeps.quiet, keeps.time, x keeps.green) refl

-- ## The maximum

-- a maximum acts, and so much is left of it
record Acts (o : Option ℕ) (t : Timer) (n : ℕ) : Type 0 where
  most : ℕ
  is : o ≡ Some most
  some : left most t ≡ n

acts : (o : Option ℕ) (t : Timer) (n : ℕ) → option_map (λ m. left m t) o ≡ Some n → Acts o t n
acts None t n h = absurd cc
acts (Some m) t n h = record { most = m; is = refl; some = cc }

shown_maximum : (s : State) (r : Ring) (p n : ℕ) → IsShown s r p (λ x. x.maximum_left) n →
    ((is_green (interval s p) && is_on (s.phases p).conflict) ≡ true) × (maximum_left s p ≡ Some n)
unfolding status
shown_maximum s r p n x =
    has_shown (λ q. is_green (interval s q) && is_on (s.phases q).conflict) (maximum_left s) (serving s r) x.phase x.left
  where
    has_shown : (test : ℕ → Bool) (value : ℕ → Option ℕ) (o : Option ℕ) → o ≡ Some p → where_has test value o ≡ Some n →
        (test p ≡ true) × (value p ≡ Some n)
    has_shown test value o e h = go (test p) refl (rw e at h)
      where
        go : (b : Bool) → test p ≡ b → (if b then value p else None) ≡ Some n → (test p ≡ true) × (value p ≡ Some n)
        go true k l = (k, l)
        go false k l = absurd cc

runs_shown : (s : State) (row : Row) → (phases_given s row).runs ≡ runs s
unfolding phases_given
runs_shown s row = refl

maxed_by : (s : State) (row : Row) (p k most : ℕ) → (phases_given s row).conflict p ≡ true →
    acting_maximum s.plan (runs s) p (s.phases p).running_maximum ≡ Some most → (s.phases p).conflict ≡ On k → is_maxed_out p s row ≡ nat_le most (k + 1)
maxed_by s row p k most busy limit timer = rw (busy, runs_shown s row, limit, timer) refl

pub maximums_pass : (plan : Plan) (base later : List Input) (row : Row) (r : Ring) (p n : ℕ) → IsConsistent plan → AreTaken plan (later ++ base) →
    IsUntripped plan base later → IsShown (replay plan base) r p (λ x. x.maximum_left) n →
    InEachTick (KeepsMaximum p (replay plan base)) plan base (Tick row ∷ later) → PassesThen (is_maxed_out p) plan base later row n
unfolding RunsWhileGreen
maximums_pass plan base later row r p n ok taken dark shown each =
    passes_then plan base (KeepsMaximum p (replay plan base)) (RunsWhileGreen (λ y. y.conflict) p) it.most run.count
    (timer_over_others plan ok (λ y. y.conflict) (λ y f. refl) p) goes begins (is_maxed_out p) reads later row n some taken dark each
  where
    parts : ((is_green (interval (replay plan base) p) && is_on ((replay plan base).phases p).conflict) ≡ true) × (maximum_left (replay plan base) p ≡ Some n)
    parts = shown_maximum (replay plan base) r p n shown

    it : Acts (acting_maximum (replay plan base).plan (runs (replay plan base)) p ((replay plan base).phases p).running_maximum) ((replay plan base).phases p).conflict n
    it =
        acts (acting_maximum (replay plan base).plan (runs (replay plan base)) p ((replay plan base).phases p).running_maximum) ((replay plan base).phases p).conflict n
        parts.1

    run : Runs ((replay plan base).phases p).conflict
    run = on_runs ((replay plan base).phases p).conflict (and_parts (is_green (interval (replay plan base) p)) (is_on ((replay plan base).phases p).conflict) parts.0).1

    some : it.most - run.count ≡ n
    some = left_on it.most n run.count ((replay plan base).phases p).conflict run.is it.some

    begins : RunsWhileGreen (λ y. y.conflict) p run.count (replay plan base)
    begins = λ e. run.is

    goes : (is : List Input) (row : Row) (k : ℕ) → AreTaken plan is → (replay plan is).trip ≡ None → KeepsMaximum p (replay plan base) (replay plan is) row →
        k + 1 < it.most → RunsWhileGreen (λ y. y.conflict) p k (replay plan is) → RunsWhileGreen (λ y. y.conflict) p (k + 1) (replay plan (Tick row ∷ is))
    goes is row k has still keeps early x =
        timer_goes_on plan ok (λ y. y.conflict) (λ y f. refl) p is row k has still keeps.green
        (λ starts ends timer. rw (starts, keeps.green, ends, keeps.conflict, timer) refl) x

    reads : (is : List Input) (row : Row) (k : ℕ) → AreTaken plan is → KeepsMaximum p (replay plan base) (replay plan is) row →
        RunsWhileGreen (λ y. y.conflict) p k (replay plan is) → is_maxed_out p (replay plan is) row ≡ nat_le it.most (k + 1)
    reads is row k has keeps x = maxed_by (replay plan is) row p k it.most keeps.conflict (keeps.time ∙ it.is) (x keeps.green)
