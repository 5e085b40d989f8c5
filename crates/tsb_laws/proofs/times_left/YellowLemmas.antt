-- A yellow that is shown to have so much left ends then.
use Rattle.std.proofs.Common.{◌≡◌, ℕ, ◌+◌, ◌-◌, ◌<◌, ◌≤◌, nat_le, Bool, true, false, List, ◌∷◌, ◌++◌, None, refl, sym, ap, arith, ◌∙◌}
use Rattle.std.proofs.lemmas.Bool.{true≢false}
use Rattle.tsb_step.specs.tsb_cells.declared.timer.Timer.TheVariants.{On}
use Rattle.tsb_step.specs.tsb_types.declared.interval.Interval.TheVariants.{Yellow}
use Rattle.tsb_step.specs.tsb_types.declared.row.Row.{Row}
use Rattle.tsb_step.specs.tsb_types.Intervals.{is_yellow, in_service}
use Rattle.tsb_step.specs.tsb_plan.Plan.{Plan, yellow_change}
use Rattle.tsb_step.specs.tsb_phase.Phase.{Phase}
use Rattle.tsb_step.specs.tsb_phase.Ready.{yellow_is_done}
use Rattle.tsb_step.specs.tsb_ring.Moves.{is_cleared, is_started}
use Rattle.tsb_step.specs.tsb_ring.Rings.{Ring}
use Rattle.tsb_step.specs.declared.inputs.Input.{Input}
use Rattle.tsb_step.specs.declared.inputs.Input.TheVariants.{Tick}
use Rattle.tsb_step.specs.State.{State, interval}
use Rattle.tsb_step.specs.Status.{status, serving}
use Rattle.tsb_step.specs.Tick.{phase_read, moves, over, next}
use Rattle.tsb_step.specs.Step.{step}
use Rattle.tsb_step.specs.Waits.{left}
use Rattle.tsb_step.specs.Runs.{replay, AreTaken}
use Rattle.tsb_step.specs.Laws.{IsConsistent}
use Rattle.tsb_step.specs.Good.{IsGood}
use Rattle.tsb_step.specs.TimeLaws.{is_tick}
use Rattle.tsb_step.proofs.ClearLemmas.{phases_then, started_was_over}
use Rattle.tsb_step.proofs.GoodLemmas.{good_run}
use Rattle.tsb_step.proofs.TellLemmas.{is_in_yellow}
use Rattle.tsb_step.proofs.WaitedLemmas.{cleared_was_over}
use Rattle.tsb_laws.specs.Stretches.{IsUntripped}
use Rattle.tsb_laws.specs.TimesLeft.{IsShown, InEachTick, EndsThen, KeepsYellow}
use Rattle.tsb_laws.proofs.safety.IntergreenLemmas.{over_in_yellow}
use Rattle.tsb_laws.proofs.operation.step.PhaseTimeLemmas.{Runs}
use Rattle.tsb_laws.proofs.operation.green.PressedRunLemmas.{phase_stays}
use Rattle.tsb_laws.proofs.times_left.CountLemmas.{timed_first, counted, ended, where_shown, left_on, not_long, long}

-- ## Yellow

-- a yellow for so many ticks
pub record IsYellowFor (p n : ℕ) (s : State) : Type 0 where
  pub yellow : interval s p ≡ Yellow
  pub timer : (s.phases p).timer ≡ On n

pub yellow_over_others : (p n : ℕ) (s : State) (i : Input) → is_tick i ≡ false → s.trip ≡ None → IsYellowFor p n s → IsYellowFor p n (step s i)
yellow_over_others p n s i t dark x = record {
  yellow = phase_stays (λ y. y.interval) (λ y f. refl) s i p t dark ∙ x.yellow;
  timer = phase_stays (λ y. y.timer) (λ y f. refl) s i p t dark ∙ x.timer;
}

-- its time has passed in the next tick, or not
pub done_by : (s : State) (p n : ℕ) → IsYellowFor p n s → yellow_is_done s.plan p (phase_read s p) ≡ nat_le (yellow_change s.plan p) (n + 1)
done_by s p n x = rw (x.yellow, x.timer) refl

-- a yellow that is not done neither clears nor starts
not_over : (s : State) (p : ℕ) → interval s p ≡ Yellow → yellow_is_done s.plan p (phase_read s p) ≡ false → over s p ≡ true → ⊥
not_over s p e l h = let it = over_in_yellow s p e h in absurd (true≢false (sym it.0 ∙ (rw e at l)))

pub yellow_goes_on : (s : State) (row : Row) (p n : ℕ) → IsGood s → s.trip ≡ None → n + 1 < yellow_change s.plan p → IsYellowFor p n s →
    IsYellowFor p (n + 1) (step s (Tick row))
yellow_goes_on s row p n good dark early x =
    go (is_started (moves s row) p) (is_cleared (moves s row) p) refl refl
  where
    late : yellow_is_done s.plan p (phase_read s p) ≡ false
    late = done_by s p n x ∙ not_long (yellow_change s.plan p) (n + 1) early

    same : (step s (Tick row)).phases p ≡ (next s row).phases p
    same = ap (λ (f : ℕ → Phase). f p) (phases_then s row dark)

    go : (starts clears : Bool) → is_started (moves s row) p ≡ starts → is_cleared (moves s row) p ≡ clears → IsYellowFor p (n + 1) (step s (Tick row))
    go true c k l = absurd (not_over s p x.yellow late (started_was_over s row p good (ap in_service x.yellow) k))
    go false true k l = absurd (not_over s p x.yellow late (cleared_was_over s row p l))
    go false false k l =
        let now : interval (next s row) p ≡ Yellow = rw (k, x.yellow, l, rw x.yellow at late) refl in
        let runs : ((next s row).phases p).timer ≡ On (n + 1) = rw (k, x.yellow, l, rw x.yellow at late, x.timer) refl in
        record { yellow = ap (λ (y : Phase). y.interval) same ∙ now; timer = ap (λ (y : Phase). y.timer) same ∙ runs }

yellow_ends : (s : State) (row : Row) (p n : ℕ) → s.trip ≡ None → yellow_change s.plan p ≤ n + 1 → IsYellowFor p n s →
    is_yellow (interval (step s (Tick row)) p) ≡ false
yellow_ends s row p n dark late x =
    ap (λ (f : ℕ → Phase). is_yellow (f p).interval) (phases_then s row dark) ∙ go (is_started (moves s row) p) (is_cleared (moves s row) p) refl refl
  where
    done : yellow_is_done s.plan p (phase_read s p) ≡ true
    done = done_by s p n x ∙ long (yellow_change s.plan p) (n + 1) late

    go : (starts clears : Bool) → is_started (moves s row) p ≡ starts → is_cleared (moves s row) p ≡ clears → is_yellow (interval (next s row) p) ≡ false
    go true c k l = rw k refl
    go false true k l = rw (k, x.yellow, l) refl
    go false false k l = rw (k, x.yellow, l, rw x.yellow at done) refl

shown_yellow : (s : State) (r : Ring) (p n : ℕ) → IsShown s r p (λ x. x.yellow_left) n →
    (is_yellow (interval s p) ≡ true) × (left (yellow_change s.plan p) (s.phases p).timer ≡ n)
unfolding status
shown_yellow s r p n x =
    where_shown (λ q. is_yellow (interval s q)) (λ q. left (yellow_change s.plan q) (s.phases q).timer) (serving s r) p n x.phase x.left

pub yellows_end : (plan : Plan) (base later : List Input) (r : Ring) (p n : ℕ) → IsConsistent plan → AreTaken plan (later ++ base) →
    IsUntripped plan base later → IsShown (replay plan base) r p (λ x. x.yellow_left) n →
    InEachTick (KeepsYellow p (replay plan base)) plan base later → EndsThen (λ s. is_yellow (interval s p)) plan base later n
yellows_end plan base later r p n ok taken dark shown each = record {
  before = λ early. ap is_yellow (counted plan base (KeepsYellow p (replay plan base)) (IsYellowFor p) limit run.count others goes begins later taken dark each
      (omega (arith, some, early))).yellow;
  at_end = λ now. ended plan base (KeepsYellow p (replay plan base)) (IsYellowFor p) limit run.count others goes begins
      (λ s. is_yellow (interval s p) ≡ false) (λ s i t still x. ap is_yellow (phase_stays (λ y. y.interval) (λ y f. refl) s i p t still) ∙ x)
      (λ is row k has still time last late x. yellow_ends (replay plan is) row p k still (omega (arith, time, late)) x)
      later taken dark each (omega (arith, some, now));
}
  where
    limit : ℕ
    limit = yellow_change (replay plan base).plan p

    parts : (is_yellow (interval (replay plan base) p) ≡ true) × (left (yellow_change (replay plan base).plan p) ((replay plan base).phases p).timer ≡ n)
    parts = shown_yellow (replay plan base) r p n shown

    yellow : interval (replay plan base) p ≡ Yellow
    yellow = is_in_yellow (interval (replay plan base) p) parts.0

    run : Runs ((replay plan base).phases p).timer
    run = (timed_first plan base later ok taken dark p).yellow yellow

    some : limit - run.count ≡ n
    some = left_on limit n run.count ((replay plan base).phases p).timer run.is parts.1

    begins : IsYellowFor p run.count (replay plan base)
    begins = record { yellow = yellow; timer = run.is }

    others : (k : ℕ) (s : State) (i : Input) → is_tick i ≡ false → s.trip ≡ None → IsYellowFor p k s → IsYellowFor p k (step s i)
    others k s i t still x = yellow_over_others p k s i t still x

    goes : (is : List Input) (row : Row) (k : ℕ) → AreTaken plan is → (replay plan is).trip ≡ None → KeepsYellow p (replay plan base) (replay plan is) row →
        k + 1 < limit → IsYellowFor p k (replay plan is) → IsYellowFor p (k + 1) (replay plan (Tick row ∷ is))
    goes is row k has still time early x =
        yellow_goes_on (replay plan is) row p k (good_run plan is ok has) still (omega (arith, time, early)) x
