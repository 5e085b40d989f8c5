-- A red clearance that is shown to have so much left is done then.
use Rattle.std.proofs.Common.{◌≡◌, ℕ, ◌+◌, ◌-◌, ◌<◌, nat_le, Bool, true, false, List, ◌∷◌, ◌++◌, None, refl, sym, ap, arith, ◌∙◌}
use Rattle.std.proofs.lemmas.Bool.{true≢false}
use Rattle.tsb_step.specs.tsb_cells.declared.timer.Timer.TheVariants.{On}
use Rattle.tsb_step.specs.tsb_types.declared.interval.Interval.{Interval}
use Rattle.tsb_step.specs.tsb_types.declared.interval.Interval.TheVariants.{RedClear}
use Rattle.tsb_step.specs.tsb_types.declared.row.Row.{Row}
use Rattle.tsb_step.specs.tsb_types.Intervals.{is_red_clear, in_service}
use Rattle.tsb_step.specs.tsb_plan.Plan.{Plan, red_clear}
use Rattle.tsb_step.specs.tsb_phase.Phase.{Phase}
use Rattle.tsb_step.specs.tsb_phase.Ready.{is_over}
use Rattle.tsb_step.specs.tsb_ring.Moves.{is_cleared, is_started}
use Rattle.tsb_step.specs.tsb_ring.Rings.{Ring}
use Rattle.tsb_step.specs.declared.inputs.Input.{Input}
use Rattle.tsb_step.specs.declared.inputs.Input.TheVariants.{Tick}
use Rattle.tsb_step.specs.State.{State, interval}
use Rattle.tsb_step.specs.Status.{status, serving}
use Rattle.tsb_step.specs.Tick.{moves, over, next}
use Rattle.tsb_step.specs.Step.{step}
use Rattle.tsb_step.specs.Waits.{left}
use Rattle.tsb_step.specs.Runs.{replay, AreTaken}
use Rattle.tsb_step.specs.Laws.{IsConsistent}
use Rattle.tsb_step.specs.Good.{IsGood}
use Rattle.tsb_step.specs.TimeLaws.{is_tick}
use Rattle.tsb_step.proofs.ClearLemmas.{phases_then, started_was_over}
use Rattle.tsb_step.proofs.GoodLemmas.{good_run}
use Rattle.tsb_step.proofs.WaitedLemmas.{cleared_was_over}
use Rattle.tsb_laws.specs.Stretches.{IsUntripped}
use Rattle.tsb_laws.specs.TimesLeft.{IsShown, InEachTick, PassesThen, KeepsRedClear}
use Rattle.tsb_laws.proofs.operation.step.PhaseTimeLemmas.{Runs}
use Rattle.tsb_laws.proofs.operation.green.PressedRunLemmas.{phase_stays}
use Rattle.tsb_laws.proofs.times_left.CountLemmas.{timed_first, passes_then, where_shown, left_on, not_long}

-- a red clearance for so many ticks
pub record ClearsFor (p n : ℕ) (s : State) : Type 0 where
  pub clears : interval s p ≡ RedClear
  pub timer : (s.phases p).timer ≡ On n

pub clears_over_others : (p n : ℕ) (s : State) (i : Input) → is_tick i ≡ false → s.trip ≡ None → ClearsFor p n s → ClearsFor p n (step s i)
clears_over_others p n s i t dark x = record {
  clears = phase_stays (λ y. y.interval) (λ y f. refl) s i p t dark ∙ x.clears;
  timer = phase_stays (λ y. y.timer) (λ y f. refl) s i p t dark ∙ x.timer;
}

-- it is over in the next tick, or not
pub over_by : (s : State) (p n : ℕ) → ClearsFor p n s → over s p ≡ nat_le (red_clear s.plan p) (n + 1)
unfolding is_over
over_by s p n x = rw (x.clears, x.timer) refl

pub clearing_goes_on : (s : State) (row : Row) (p n : ℕ) → IsGood s → s.trip ≡ None → n + 1 < red_clear s.plan p → ClearsFor p n s →
    ClearsFor p (n + 1) (step s (Tick row))
clearing_goes_on s row p n good dark early x =
    go (is_started (moves s row) p) (is_cleared (moves s row) p) refl refl
  where
    late : over s p ≡ false
    late = over_by s p n x ∙ not_long (red_clear s.plan p) (n + 1) early

    same : (step s (Tick row)).phases p ≡ (next s row).phases p
    same = ap (λ (f : ℕ → Phase). f p) (phases_then s row dark)

    go : (starts clears : Bool) → is_started (moves s row) p ≡ starts → is_cleared (moves s row) p ≡ clears → ClearsFor p (n + 1) (step s (Tick row))
    go true c k l = absurd (true≢false (sym (started_was_over s row p good (ap in_service x.clears) k) ∙ late))
    go false true k l = absurd (true≢false (sym (cleared_was_over s row p l) ∙ late))
    go false false k l =
        let now : interval (next s row) p ≡ RedClear = rw (k, x.clears, l) refl in
        let runs : ((next s row).phases p).timer ≡ On (n + 1) = rw (k, x.clears, l, x.timer) refl in
        record { clears = ap (λ (y : Phase). y.interval) same ∙ now; timer = ap (λ (y : Phase). y.timer) same ∙ runs }

shown_red_clear : (s : State) (r : Ring) (p n : ℕ) → IsShown s r p (λ x. x.red_clearance_left) n →
    (interval s p ≡ RedClear) × (left (red_clear s.plan p) (s.phases p).timer ≡ n)
unfolding status
shown_red_clear s r p n x =
    let it = where_shown (λ q. is_red_clear (interval s q)) (λ q. left (red_clear s.plan q) (s.phases q).timer) (serving s r) p n x.phase x.left in
    (named (interval s p) it.0, it.1)
  where
    named : (i : Interval) → is_red_clear i ≡ true → i ≡ RedClear
    named RedClear h = refl
    named i h = cc

pub red_clears_end : (plan : Plan) (base later : List Input) (row : Row) (r : Ring) (p n : ℕ) → IsConsistent plan → AreTaken plan (later ++ base) →
    IsUntripped plan base later → IsShown (replay plan base) r p (λ x. x.red_clearance_left) n →
    InEachTick (KeepsRedClear p (replay plan base)) plan base (Tick row ∷ later) → PassesThen (λ s row. over s p) plan base later row n
red_clears_end plan base later row r p n ok taken dark shown each =
    passes_then plan base (KeepsRedClear p (replay plan base)) (ClearsFor p) limit run.count others goes begins (λ s row. over s p)
    (λ is next k has time x. over_by (replay plan is) p k x ∙ ap (λ (m : ℕ). nat_le m (k + 1)) time)
    later row n some taken dark each
  where
    limit : ℕ
    limit = red_clear (replay plan base).plan p

    parts : (interval (replay plan base) p ≡ RedClear) × (left (red_clear (replay plan base).plan p) ((replay plan base).phases p).timer ≡ n)
    parts = shown_red_clear (replay plan base) r p n shown

    run : Runs ((replay plan base).phases p).timer
    run = (timed_first plan base later ok taken dark p).red_clear parts.0

    some : limit - run.count ≡ n
    some = left_on limit n run.count ((replay plan base).phases p).timer run.is parts.1

    begins : ClearsFor p run.count (replay plan base)
    begins = record { clears = parts.0; timer = run.is }

    others : (k : ℕ) (s : State) (i : Input) → is_tick i ≡ false → s.trip ≡ None → ClearsFor p k s → ClearsFor p k (step s i)
    others k s i t still x = clears_over_others p k s i t still x

    goes : (is : List Input) (row : Row) (k : ℕ) → AreTaken plan is → (replay plan is).trip ≡ None → KeepsRedClear p (replay plan base) (replay plan is) row →
        k + 1 < limit → ClearsFor p k (replay plan is) → ClearsFor p (k + 1) (replay plan (Tick row ∷ is))
    goes is row k has still time early x =
        clearing_goes_on (replay plan is) row p k (good_run plan is ok has) still (omega (arith, time, early)) x
