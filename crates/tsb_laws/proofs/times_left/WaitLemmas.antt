-- A clearance or a red revert that a phase is shown to wait for is done then.
use Rattle.std.proofs.Common.{◌≡◌, ℕ, ◌+◌, ◌-◌, ◌<◌, ◌==◌, nat_le, Bool, true, false, ◌&&◌, List, [], ◌∷◌, ◌++◌, None, refl, sym, ap, arith, ◌∙◌}
use Rattle.std.proofs.lemmas.Bool.{true≢false}
use Rattle.std.proofs.lemmas.Bool.Decides.{nat_tests}
use Rattle.tsb_step.specs.tsb_cells.declared.timer.Timer.{Timer}
use Rattle.tsb_step.specs.tsb_cells.declared.timer.Timer.TheVariants.{Off, On}
use Rattle.tsb_step.specs.tsb_types.declared.interval.Interval.{Interval}
use Rattle.tsb_step.specs.tsb_types.declared.interval.Interval.TheVariants.{Red, Green, Yellow, RedClear}
use Rattle.tsb_step.specs.tsb_types.declared.row.Row.{Row}
use Rattle.tsb_step.specs.tsb_types.Intervals.{is_green, is_yellow, in_service}
use Rattle.tsb_step.specs.tsb_types.Sets.{is_phase}
use Rattle.tsb_step.specs.tsb_plan.Plan.{Plan, yellow_change, red_clear, red_revert}
use Rattle.tsb_step.specs.tsb_phase.Phase.{Phase}
use Rattle.tsb_step.specs.tsb_phase.Ready.{yellow_is_done, is_over, red_revert_passed}
use Rattle.tsb_step.specs.tsb_ring.Moves.{is_cleared, is_started}
use Rattle.tsb_step.specs.declared.inputs.Input.{Input}
use Rattle.tsb_step.specs.declared.inputs.Input.TheVariants.{Tick}
use Rattle.tsb_step.specs.declared.waits.Wait.TheVariants as waits
use Rattle.tsb_step.specs.State.{State, interval}
use Rattle.tsb_step.specs.Status.{status}
use Rattle.tsb_step.specs.Tick.{phase_read, moves, over, reverted, next}
use Rattle.tsb_step.specs.Step.{step}
use Rattle.tsb_step.specs.Waits.{until_over, red_revert_left, is_reverted_next}
use Rattle.tsb_step.specs.Runs.{replay, AreTaken}
use Rattle.tsb_step.specs.Laws.{IsConsistent}
use Rattle.tsb_step.specs.Good.{IsGood}
use Rattle.tsb_step.specs.TimeLaws.{is_tick}
use Rattle.tsb_step.proofs.ClearLemmas.{phases_then, started_was_over}
use Rattle.tsb_step.proofs.GoodLemmas.{good_run}
use Rattle.tsb_step.proofs.TellLemmas.{told_run}
use Rattle.tsb_step.proofs.TimerLemmas.{is_shown}
use Rattle.tsb_step.proofs.WaitSoLemmas.{waits-are-so}
use Rattle.tsb_step.proofs.WaitedLemmas.{cleared_was_over, started_has_reverted}
use Rattle.tsb_laws.specs.Stretches.{IsUntripped}
use Rattle.tsb_laws.specs.TimesLeft.{InEachTick, PassesThen, ToClear, here, across, HasBegun, KeepsBoth, ToRevert, own, beside, KeepsRevert}
use Rattle.tsb_laws.proofs.operation.step.PhaseTimeLemmas.{Runs, IsTimed}
use Rattle.tsb_laws.proofs.operation.green.PressedRunLemmas.{phase_stays}
use Rattle.tsb_laws.proofs.times_left.CountLemmas.{timed_first, passes_then, left_on, not_long}
use Rattle.tsb_laws.proofs.times_left.RedClearLemmas.{ClearsFor, clears_over_others, over_by, clearing_goes_on}
use Rattle.tsb_laws.proofs.times_left.YellowLemmas.{IsYellowFor, yellow_over_others, done_by, yellow_goes_on}

-- ## Yellow change and red clearance together

-- so many ticks of a clearance whose yellow change is y: in its yellow, or in its red clearance after all of it
data ClearingFor (p y n : ℕ) (s : State) : Type 0 where
  in_yellow : n < y → IsYellowFor p n s → ClearingFor p y n s
  in_red : (k : ℕ) → n ≡ y + k → ClearsFor p k s → ClearingFor p y n s

clearing_over_others : (p y n : ℕ) (s : State) (i : Input) → is_tick i ≡ false → s.trip ≡ None → ClearingFor p y n s → ClearingFor p y n (step s i)
clearing_over_others p y n s i t dark (in_yellow h x) = in_yellow h (yellow_over_others p n s i t dark x)
clearing_over_others p y n s i t dark (in_red k h x) = in_red k h (clears_over_others p k s i t dark x)

-- a yellow that is over has no red clearance
over_in : (s : State) (p n : ℕ) → IsYellowFor p n s → over s p ≡ (yellow_is_done s.plan p (phase_read s p) && red_clear s.plan p == 0)
unfolding is_over
over_in s p n x = rw x.yellow refl

is_over_by : (s : State) (p y z n : ℕ) → yellow_change s.plan p ≡ y → red_clear s.plan p ≡ z → ClearingFor p y n s → over s p ≡ nat_le (y + z) (n + 1)
is_over_by s p y z n e f (in_red k h x) = over_by s p k x ∙ ap (λ (m : ℕ). nat_le m (k + 1)) f ∙ shifted y z k n h
  where
    shifted : (a b c m : ℕ) → m ≡ a + c → nat_le b (c + 1) ≡ nat_le (a + b) (m + 1)
    shifted a b c m g = go (nat_le b (c + 1)) refl
      where
        go : (x : Bool) → nat_le b (c + 1) ≡ x → x ≡ nat_le (a + b) (m + 1)
        go true k = grind (arith, nat_tests, g, k)
        go false k = grind (arith, nat_tests, g, k)
is_over_by s p y z n e f (in_yellow h x) =
    over_in s p n x ∙ ap (λ (b : Bool). b && red_clear s.plan p == 0) (done_by s p n x)
    ∙ ap (λ (m : ℕ). nat_le m (n + 1) && red_clear s.plan p == 0) e ∙ ap (λ (m : ℕ). nat_le y (n + 1) && m == 0) f ∙ both z h
  where
    both : (b : ℕ) → n < y → (nat_le y (n + 1) && b == 0) ≡ nat_le (y + b) (n + 1)
    both b early = go (nat_le y (n + 1)) (b == 0) refl refl
      where
        go : (x none : Bool) → nat_le y (n + 1) ≡ x → (b == 0) ≡ none → (x && none) ≡ nat_le (y + b) (n + 1)
        go true true k l = grind (arith, nat_tests, k, l)
        go true false k l = grind (arith, nat_tests, early, k, l)
        go false none k l = grind (arith, nat_tests, early, k)

clearing_goes : (s : State) (row : Row) (p y z n : ℕ) → IsGood s → s.trip ≡ None → yellow_change s.plan p ≡ y → red_clear s.plan p ≡ z → n + 1 < y + z →
    ClearingFor p y n s → ClearingFor p y (n + 1) (step s (Tick row))
clearing_goes s row p y z n good dark e f early (in_red k h x) =
    in_red (k + 1) (omega (arith, h)) (clearing_goes_on s row p k good dark (omega (arith, f, early, h)) x)
clearing_goes s row p y z n good dark e f early (in_yellow h x) = go (nat_le y (n + 1)) refl
  where
    turns : nat_le y (n + 1) ≡ true → (starts clears : Bool) → is_started (moves s row) p ≡ starts → is_cleared (moves s row) p ≡ clears →
        ClearingFor p y (n + 1) (step s (Tick row))
    turns k true c a b =
        absurd (true≢false (sym (started_was_over s row p good (ap in_service x.yellow) a) ∙ is_over_by s p y z n e f (in_yellow h x) ∙ not_long (y + z) (n + 1) early))
    turns k false true a b =
        absurd (true≢false (sym (cleared_was_over s row p b) ∙ is_over_by s p y z n e f (in_yellow h x) ∙ not_long (y + z) (n + 1) early))
    turns k false false a b =
        let done : yellow_is_done s.plan p (phase_read s p) ≡ true = done_by s p n x ∙ ap (λ (m : ℕ). nat_le m (n + 1)) e ∙ k in
        let now : interval (next s row) p ≡ RedClear = rw (a, x.yellow, b, rw x.yellow at done) refl in
        let begun : ((next s row).phases p).timer ≡ On 0 = rw (a, x.yellow, b, rw x.yellow at done) refl in
        let same : (step s (Tick row)).phases p ≡ (next s row).phases p = ap (λ (g : ℕ → Phase). g p) (phases_then s row dark) in
        in_red 0 (exact k) (record { clears = ap (λ (u : Phase). u.interval) same ∙ now; timer = ap (λ (u : Phase). u.timer) same ∙ begun })
      where
        exact : nat_le y (n + 1) ≡ true → n + 1 ≡ y + 0
        exact l = grind (arith, nat_tests, l, h)

    soon : nat_le y (n + 1) ≡ false → n + 1 < y
    soon l = grind (arith, nat_tests, l)

    go : (b : Bool) → nat_le y (n + 1) ≡ b → ClearingFor p y (n + 1) (step s (Tick row))
    go true k = turns k (is_started (moves s row) p) (is_cleared (moves s row) p) refl refl
    go false k = let less : n + 1 < y = soon k in in_yellow less (yellow_goes_on s row p n good dark (omega (arith, less, e)) x)

-- what is shown is until then
shown_to_clear : (s : State) (q n : ℕ) → ToClear s q n → n ≡ until_over s q
unfolding status
shown_to_clear s q n (here p h) = (waits-are-so s p (waits.Clears q n) h).1
shown_to_clear s q n (across p h) = (waits-are-so s p (waits.Across q n) h).2

record Begins (s : State) (q n y z : ℕ) : Type 0 where
  start : ℕ
  counts : ClearingFor q y start s
  some : y + z - start ≡ n

begins_with : (s : State) (q n : ℕ) → IsTimed (s.phases q) → n ≡ until_over s q → (i : Interval) → interval s q ≡ i → HasBegun s q i →
    Begins s q n (yellow_change s.plan q) (red_clear s.plan q)
begins_with s q n timed shown Red e h = absurd h
begins_with s q n timed shown Green e h = absurd h
begins_with s q n timed shown Yellow e h =
    let run : Runs (s.phases q).timer = timed.yellow e in
    let rest : n ≡ (yellow_change s.plan q - run.count) + red_clear s.plan q = shown ∙ rw (e, run.is) refl in
    let less : run.count < yellow_change s.plan q = below run.count (yellow_change s.plan q) (rw run.is at h) in
    record { start = run.count; counts = in_yellow less (record { yellow = e; timer = run.is }); some = omega (arith, rest, less) }
  where
    below : (k time : ℕ) → nat_le time k ≡ false → k < time
    below k time l = grind (arith, nat_tests, l)
begins_with s q n timed shown RedClear e h =
    let run : Runs (s.phases q).timer = timed.red_clear e in
    let rest : n ≡ red_clear s.plan q - run.count = shown ∙ rw (e, run.is) refl in
    record {
      start = yellow_change s.plan q + run.count;
      counts = in_red run.count refl (record { clears = e; timer = run.is });
      some = omega (arith, rest);
    }

pub clearances_are_over : (plan : Plan) (base later : List Input) (row : Row) (q n : ℕ) → IsConsistent plan → AreTaken plan (later ++ base) →
    IsUntripped plan base later → ToClear (replay plan base) q n → HasBegun (replay plan base) q (interval (replay plan base) q) →
    InEachTick (KeepsBoth q (replay plan base)) plan base (Tick row ∷ later) → PassesThen (λ s row. over s q) plan base later row n
clearances_are_over plan base later row q n ok taken dark shown begun each =
    passes_then plan base (KeepsBoth q (replay plan base)) (ClearingFor q y) (y + z) x.start others goes x.counts (λ s row. over s q)
    (λ is next k has keeps c. is_over_by (replay plan is) q y z k keeps.yellow keeps.red c)
    later row n x.some taken dark each
  where
    y : ℕ
    y = yellow_change (replay plan base).plan q

    z : ℕ
    z = red_clear (replay plan base).plan q

    x : Begins (replay plan base) q n (yellow_change (replay plan base).plan q) (red_clear (replay plan base).plan q)
    x =
        begins_with (replay plan base) q n (timed_first plan base later ok taken dark q) (shown_to_clear (replay plan base) q n shown)
        (interval (replay plan base) q) refl begun

    others : (k : ℕ) (s : State) (i : Input) → is_tick i ≡ false → s.trip ≡ None → ClearingFor q y k s → ClearingFor q y k (step s i)
    others k s i t still c = clearing_over_others q y k s i t still c

    goes : (is : List Input) (row : Row) (k : ℕ) → AreTaken plan is → (replay plan is).trip ≡ None → KeepsBoth q (replay plan base) (replay plan is) row →
        k + 1 < y + z → ClearingFor q y k (replay plan is) → ClearingFor q y (k + 1) (replay plan (Tick row ∷ is))
    goes is row k has still keeps early c =
        clearing_goes (replay plan is) row q y z k (good_run plan is ok has) still keeps.yellow keeps.red early c

-- ## Red revert

-- a phase that is neither Green nor Yellow, with a red revert timer that has run for so many ticks
record RevertsFor (p n : ℕ) (s : State) : Type 0 where
  out : is_shown (interval s p) ≡ false
  timer : (s.phases p).red_revert ≡ On n

reverts_over_others : (p n : ℕ) (s : State) (i : Input) → is_tick i ≡ false → s.trip ≡ None → RevertsFor p n s → RevertsFor p n (step s i)
reverts_over_others p n s i t dark x = record {
  out = ap is_shown (phase_stays (λ y. y.interval) (λ y f. refl) s i p t dark) ∙ x.out;
  timer = phase_stays (λ y. y.red_revert) (λ y f. refl) s i p t dark ∙ x.timer;
}

reverts_by : (s : State) (p n : ℕ) → RevertsFor p n s → reverted s p ≡ nat_le (red_revert s.plan p) (n + 1)
unfolding red_revert_passed
reverts_by s p n x = go (interval s p) refl
  where
    go : (i : Interval) → interval s p ≡ i → reverted s p ≡ nat_le (red_revert s.plan p) (n + 1)
    go Red k = rw (k, x.timer) refl
    go RedClear k = rw (k, x.timer) refl
    go Green k = absurd (true≢false (sym (ap is_shown k) ∙ x.out))
    go Yellow k = absurd (true≢false (sym (ap is_shown k) ∙ x.out))

reverts_go_on : (s : State) (row : Row) (p n : ℕ) → s.trip ≡ None → n + 1 < red_revert s.plan p → RevertsFor p n s → RevertsFor p (n + 1) (step s (Tick row))
reverts_go_on s row p n dark early x = starts (is_started (moves s row) p) refl
  where
    same : (step s (Tick row)).phases p ≡ (next s row).phases p
    same = ap (λ (f : ℕ → Phase). f p) (phases_then s row dark)

    after : is_shown (interval (next s row) p) ≡ false → ((next s row).phases p).red_revert ≡ On (n + 1) → RevertsFor p (n + 1) (step s (Tick row))
    after out timer = record { out = ap (λ (y : Phase). is_shown y.interval) same ∙ out; timer = ap (λ (y : Phase). y.red_revert) same ∙ timer }

    go : is_started (moves s row) p ≡ false → (i : Interval) (c : Bool) → interval s p ≡ i → is_cleared (moves s row) p ≡ c →
        RevertsFor p (n + 1) (step s (Tick row))
    go a Red c k l = after (rw (a, k) refl) (rw (a, k, x.timer) refl)
    go a RedClear true k l = after (rw (a, k, l) refl) (rw (a, k, x.timer) refl)
    go a RedClear false k l = after (rw (a, k, l) refl) (rw (a, k, x.timer) refl)
    go a Green c k l = absurd (true≢false (sym (ap is_shown k) ∙ x.out))
    go a Yellow c k l = absurd (true≢false (sym (ap is_shown k) ∙ x.out))

    starts : (b : Bool) → is_started (moves s row) p ≡ b → RevertsFor p (n + 1) (step s (Tick row))
    starts true a = absurd (true≢false (sym (started_has_reverted s row p a) ∙ reverts_by s p n x ∙ not_long (red_revert s.plan p) (n + 1) early))
    starts false a = go a (interval s p) (is_cleared (moves s row) p) refl refl

shown_to_revert : (s : State) (p n : ℕ) → ToRevert s p n → (is_reverted_next s p ≡ false) × (n ≡ red_revert_left s p)
unfolding status
shown_to_revert s p n (own h) = waits-are-so s p (waits.RedRevert n) h
shown_to_revert s p n (beside q h) = let it = waits-are-so s q (waits.Beside p n) h in (it.1.reverts, it.2)

-- a red revert timer that keeps a phase from starting is On
reverts_now : (s : State) (p : ℕ) → is_phase p ≡ true → is_yellow (interval s p) ≡ false → is_reverted_next s p ≡ false → Runs (s.phases p).red_revert
unfolding red_revert_passed
reverts_now s p on dark h = go (s.phases p).red_revert refl
  where
    go : (t : Timer) → (s.phases p).red_revert ≡ t → Runs (s.phases p).red_revert
    go Off e = let bad : true ≡ false = rw (on, dark, e) at h in absurd (true≢false bad)
    go (On n) e = record { count = n; is = e }

not_shown : (s : State) (p : ℕ) → is_yellow (interval s p) ≡ false → (is_green (interval s p) ≡ true → ⊥) → is_shown (interval s p) ≡ false
not_shown s p dark green = go (interval s p) refl
  where
    go : (i : Interval) → interval s p ≡ i → is_shown (interval s p) ≡ false
    go Red e = ap is_shown e
    go RedClear e = ap is_shown e
    go Yellow e = absurd (true≢false (sym (ap is_yellow e) ∙ dark))
    go Green e = absurd (green (ap is_green e))

pub red_reverts_pass : (plan : Plan) (base later : List Input) (row : Row) (p n : ℕ) → IsConsistent plan → AreTaken plan (later ++ base) →
    IsUntripped plan base later → is_phase p ≡ true → ToRevert (replay plan base) p n → is_yellow (interval (replay plan base) p) ≡ false →
    InEachTick (KeepsRevert p (replay plan base)) plan base (Tick row ∷ later) → PassesThen (λ s row. reverted s p) plan base later row n
red_reverts_pass plan base later row p n ok taken dark on shown yellow each =
    passes_then plan base (KeepsRevert p (replay plan base)) (RevertsFor p) limit run.count others goes begins (λ s row. reverted s p)
    (λ is next k has time x. reverts_by (replay plan is) p k x ∙ ap (λ (m : ℕ). nat_le m (k + 1)) time)
    later row n some taken dark each
  where
    limit : ℕ
    limit = red_revert (replay plan base).plan p

    parts : (is_reverted_next (replay plan base) p ≡ false) × (n ≡ red_revert_left (replay plan base) p)
    parts = shown_to_revert (replay plan base) p n shown

    run : Runs ((replay plan base).phases p).red_revert
    run = reverts_now (replay plan base) p on yellow parts.0

    some : limit - run.count ≡ n
    some = left_on limit n run.count ((replay plan base).phases p).red_revert run.is (sym parts.1)

    told_first : (l : List Input) → AreTaken plan (l ++ base) → IsUntripped plan base l → is_shown (interval (replay plan base) p) ≡ true →
        ((replay plan base).phases p).red_revert ≡ Off
    told_first [] has still = (told_run plan base ok has still p).off
    told_first (i ∷ l) has still = told_first l has.0 still.0

    -- in green its red revert timer is Off
    green : is_green (interval (replay plan base) p) ≡ true → ⊥
    green h =
        let off : ((replay plan base).phases p).red_revert ≡ Off =
        told_first later taken dark (rw h refl) in
        let bad : Off ≡ On run.count = sym off ∙ run.is in
        absurd cc

    begins : RevertsFor p run.count (replay plan base)
    begins = record { out = not_shown (replay plan base) p yellow green; timer = run.is }

    others : (k : ℕ) (s : State) (i : Input) → is_tick i ≡ false → s.trip ≡ None → RevertsFor p k s → RevertsFor p k (step s i)
    others k s i t still x = reverts_over_others p k s i t still x

    goes : (is : List Input) (row : Row) (k : ℕ) → AreTaken plan is → (replay plan is).trip ≡ None → KeepsRevert p (replay plan base) (replay plan is) row →
        k + 1 < limit → RevertsFor p k (replay plan is) → RevertsFor p (k + 1) (replay plan (Tick row ∷ is))
    goes is row k has still time early x = reverts_go_on (replay plan is) row p k still (omega (arith, time, early)) x
