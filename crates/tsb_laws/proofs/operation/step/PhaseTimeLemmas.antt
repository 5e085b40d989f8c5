-- How many ticks more a phase takes to clear, and to have passed its red revert. Each is found of the phase as it is,
-- by times that no plan in effect exceeds, and goes down by one in each tick. For the laws of called phases, of
-- patterns and of preempts.
use Rattle.std.proofs.Common.{◌≡◌, ℕ, ◌+◌, ◌-◌, ◌<◌, ◌≤◌, Bool, true, false, max, refl, sym, arith, ◌∙◌}
use Rattle.std.proofs.lemmas.Bool.{true≢false, false≢true}
use Rattle.tsb_step.specs.tsb_cells.declared.timer.Timer.{Timer}
use Rattle.tsb_step.specs.tsb_cells.declared.timer.Timer.TheVariants.{Off, On}
use Rattle.tsb_step.specs.tsb_cells.Timer.{advanced}
use Rattle.tsb_step.specs.tsb_types.declared.interval.Interval.{Interval}
use Rattle.tsb_step.specs.tsb_types.declared.interval.Interval.TheVariants.{Red, Green, Yellow, RedClear}
use Rattle.tsb_step.specs.tsb_types.declared.interval.PedestrianInterval.{PedestrianInterval}
use Rattle.tsb_step.specs.tsb_types.declared.interval.PedestrianInterval.TheVariants.{DontWalk, Walk, PedestrianClear}
use Rattle.tsb_step.specs.tsb_types.declared.row.Row.{Row}
use Rattle.tsb_step.specs.tsb_types.Intervals.{is_green, in_service}
use Rattle.tsb_step.specs.tsb_plan.Plan.{yellow_change, red_clear, red_revert}
use Rattle.tsb_step.specs.tsb_phase.Phase.{Phase}
use Rattle.tsb_step.specs.tsb_phase.Ready.{yellow_is_done, red_revert_passed}
use Rattle.tsb_step.specs.tsb_ring.Moves.{is_ended, is_cleared, is_started}
use Rattle.tsb_step.specs.State.{State, interval}
use Rattle.tsb_step.specs.Tick.{phase_read, moves, over, reverted, next}
use Rattle.tsb_step.proofs.WaitedLemmas.{cleared_was_over}
use Rattle.tsb_laws.proofs.safety.DueLemmas.{not_over_in_yellow, not_over_in_red_clear, not_lasted, not_reached}
use Rattle.tsb_laws.proofs.safety.IntergreenLemmas.{over_in_yellow}

-- ## Words

-- the ticks in which a timer will not have reached a time
abbrev pub left : ℕ → Timer → ℕ
left limit Off = limit
left limit (On n) = limit - (n + 1)

-- in which a phase will not be over: y and z are its yellow change and its red clearance
abbrev pub clearing_in : ℕ → ℕ → Timer → Interval → ℕ
clearing_in y z t Red = 0
clearing_in y z t Green = 0
clearing_in y z t Yellow = left y t + z
clearing_in y z t RedClear = left z t

abbrev pub clearing_left : ℕ → ℕ → Phase → ℕ
clearing_left y z x = clearing_in y z x.timer x.interval

-- in which its red revert will not have passed: r is its red revert
abbrev pub past : ℕ → Timer → ℕ
past r Off = 0
past r (On n) = r - (n + 1)

abbrev pub revert_in : ℕ → ℕ → Timer → Timer → Interval → ℕ
revert_in y r t v Red = past r v
revert_in y r t v Green = 0
revert_in y r t v Yellow = left y t + r
revert_in y r t v RedClear = past r v

abbrev pub revert_left : ℕ → ℕ → Phase → ℕ
revert_left y r x = revert_in y r x.timer x.red_revert x.interval

-- in which its pedestrians will not be in DontWalk: a and b are its walk and its pedestrian clearance
abbrev pub walking_in : ℕ → ℕ → Timer → PedestrianInterval → ℕ
walking_in a b t DontWalk = 0
walking_in a b t Walk = left a t + b
walking_in a b t PedestrianClear = left b t

-- in which a green that a preempt ends will not be ready: g is the preempt's minimum green
abbrev pub green_left : ℕ → ℕ → ℕ → Phase → ℕ
green_left g a b x = max (left g x.timer) (walking_in a b x.pedestrian_timer x.pedestrian)

-- at most the times that they are of
pub left_most : (limit : ℕ) (t : Timer) → left limit t ≤ limit
left_most limit Off = omega arith
left_most limit (On n) = omega arith

pub past_most : (limit : ℕ) (t : Timer) → past limit t ≤ limit
past_most limit Off = omega arith
past_most limit (On n) = omega arith

pub walking_most : (a b : ℕ) (t : Timer) (x : PedestrianInterval) → walking_in a b t x ≤ a + b
walking_most a b t DontWalk = omega arith
walking_most a b t Walk = let most = left_most a t in omega (arith, most)
walking_most a b t PedestrianClear = let most = left_most b t in omega (arith, most)

-- a timer that runs
pub record Runs (t : Timer) : Type 0 where
  pub count : ℕ
  pub is : t ≡ On count

-- the timers of what a phase is in run
pub record IsTimed (x : Phase) : Type 0 where
  pub green : x.interval ≡ Green → Runs x.timer
  pub yellow : x.interval ≡ Yellow → Runs x.timer
  pub red_clear : x.interval ≡ RedClear → Runs x.timer
  pub walk : x.pedestrian ≡ Walk → Runs x.pedestrian_timer
  pub clearance : x.pedestrian ≡ PedestrianClear → Runs x.pedestrian_timer

-- ## Clearing

pub clears_at : (y z m : ℕ) (t u : Timer) (i j : Interval) → t ≡ u → i ≡ j → clearing_in y z u j ≤ m → clearing_in y z t i ≤ m
clears_at y z m t u i j e f h = rw (e, f) h

pub clears_down : (s : State) (row : Row) (p y z : ℕ) → yellow_change s.plan p ≤ y → IsTimed (s.phases p) → is_green (interval s p) ≡ false →
    is_started (moves s row) p ≡ false → clearing_left y z ((next s row).phases p) ≤ clearing_left y z (s.phases p) - 1
clears_down s row p y z most timed dark no_start = go (interval s p) refl
  where
    m : ℕ
    m = clearing_left y z (s.phases p) - 1

    red : interval (next s row) p ≡ Red → clearing_left y z ((next s row).phases p) ≤ m
    red now = clears_at y z m ((next s row).phases p).timer ((next s row).phases p).timer (interval (next s row) p) Red refl now (omega arith)

    yellow : interval s p ≡ Yellow → (c d : Bool) → is_cleared (moves s row) p ≡ c → yellow_is_done s.plan p (phase_read s p) ≡ d →
        clearing_left y z ((next s row).phases p) ≤ m
    yellow e true d k l = red (rw (no_start, e, k) refl)
    yellow e false true k l =
        let run : Runs (s.phases p).timer = timed.yellow e in
        let now : interval (next s row) p ≡ RedClear = rw (no_start, e, k, rw e at l) refl in
        let begun : ((next s row).phases p).timer ≡ On 0 = rw (no_start, e, k, rw e at l) refl in
        let was : clearing_left y z (s.phases p) ≡ left y (On run.count) + z = rw (e, run.is) refl in
        clears_at y z m ((next s row).phases p).timer (On 0) (interval (next s row) p) RedClear begun now (omega (arith, was))
    yellow e false false k l =
        let run : Runs (s.phases p).timer = timed.yellow e in
        let now : interval (next s row) p ≡ Yellow = rw (no_start, e, k, rw e at l) refl in
        let runs : ((next s row).phases p).timer ≡ On (run.count + 1) = rw (no_start, e, k, rw e at l, run.is) refl in
        let was : clearing_left y z (s.phases p) ≡ left y (On run.count) + z = rw (e, run.is) refl in
        let soon : run.count + 1 < yellow_change s.plan p = not_lasted (s.phases p).timer run.count (yellow_change s.plan p) run.is (rw e at l) in
        clears_at y z m ((next s row).phases p).timer (On (run.count + 1)) (interval (next s row) p) Yellow runs now (omega (arith, was, soon, most))

    clear : interval s p ≡ RedClear → (c : Bool) → is_cleared (moves s row) p ≡ c → clearing_left y z ((next s row).phases p) ≤ m
    clear e true k = red (rw (no_start, e, k) refl)
    clear e false k =
        let run : Runs (s.phases p).timer = timed.red_clear e in
        let now : interval (next s row) p ≡ RedClear = rw (no_start, e, k) refl in
        let runs : ((next s row).phases p).timer ≡ On (run.count + 1) = rw (no_start, e, k, run.is) refl in
        let was : clearing_left y z (s.phases p) ≡ left z (On run.count) = rw (e, run.is) refl in
        clears_at y z m ((next s row).phases p).timer (On (run.count + 1)) (interval (next s row) p) RedClear runs now (omega (arith, was))

    go : (i : Interval) → interval s p ≡ i → clearing_left y z ((next s row).phases p) ≤ m
    go Red e = red (rw (no_start, e) refl)
    go Green e = absurd (true≢false (rw e at dark))
    go Yellow e = yellow e (is_cleared (moves s row) p) (yellow_is_done s.plan p (phase_read s p)) refl refl
    go RedClear e = clear e (is_cleared (moves s row) p) refl

-- a phase that is not over has a tick left
pub not_yet_over : (s : State) (p y z : ℕ) → yellow_change s.plan p ≤ y → red_clear s.plan p ≤ z → IsTimed (s.phases p) →
    in_service (interval s p) ≡ true → is_green (interval s p) ≡ false → over s p ≡ false → 1 ≤ clearing_left y z (s.phases p)
not_yet_over s p y z most_y most_z timed serves dark h = go (interval s p) refl
  where
    yellow : interval s p ≡ Yellow → (d : Bool) → yellow_is_done s.plan p (phase_read s p) ≡ d → 1 ≤ clearing_left y z (s.phases p)
    yellow e true l =
        let some : 1 ≤ red_clear s.plan p = not_over_in_yellow s p e h l in
        let run : Runs (s.phases p).timer = timed.yellow e in
        let was : clearing_left y z (s.phases p) ≡ left y (On run.count) + z = rw (e, run.is) refl in
        omega (arith, some, was, most_z)
    yellow e false l =
        let run : Runs (s.phases p).timer = timed.yellow e in
        let was : clearing_left y z (s.phases p) ≡ left y (On run.count) + z = rw (e, run.is) refl in
        let soon : run.count + 1 < yellow_change s.plan p = not_lasted (s.phases p).timer run.count (yellow_change s.plan p) run.is (rw e at l) in
        omega (arith, was, soon, most_y)

    go : (i : Interval) → interval s p ≡ i → 1 ≤ clearing_left y z (s.phases p)
    go Red e = absurd (false≢true (rw e at serves))
    go Green e = absurd (true≢false (rw e at dark))
    go Yellow e = yellow e (yellow_is_done s.plan p (phase_read s p)) refl
    go RedClear e =
        let run : Runs (s.phases p).timer = timed.red_clear e in
        let was : clearing_left y z (s.phases p) ≡ left z (On run.count) = rw (e, run.is) refl in
        let soon : run.count + 1 < red_clear s.plan p =
        not_lasted (s.phases p).timer run.count (red_clear s.plan p) run.is (not_over_in_red_clear s p e h) in
        omega (arith, was, soon, most_z)

-- ## Red revert

pub reverts_at : (y r m : ℕ) (t u v w : Timer) (i j : Interval) → t ≡ u → v ≡ w → i ≡ j → revert_in y r u w j ≤ m → revert_in y r t v i ≤ m
reverts_at y r m t u v w i j e f k h = rw (e, f, k) h

past_down : (r : ℕ) (v : Timer) → past r (advanced v) ≤ past r v - 1
past_down r Off = omega arith
past_down r (On n) = omega arith

pub reverts_down : (s : State) (row : Row) (p y r : ℕ) → yellow_change s.plan p ≤ y → IsTimed (s.phases p) → is_ended (moves s row) p ≡ false →
    is_started (moves s row) p ≡ false → revert_left y r ((next s row).phases p) ≤ revert_left y r (s.phases p) - 1
reverts_down s row p y r most timed no_end no_start = go (interval s p) refl
  where
    m : ℕ
    m = revert_left y r (s.phases p) - 1

    dark : (i : Interval) → (revert_in y r ((next s row).phases p).timer (advanced (s.phases p).red_revert) i ≡ past r (advanced (s.phases p).red_revert)) →
        interval (next s row) p ≡ i → ((next s row).phases p).red_revert ≡ advanced (s.phases p).red_revert →
        revert_left y r (s.phases p) ≡ past r (s.phases p).red_revert → revert_left y r ((next s row).phases p) ≤ m
    dark i same now runs was =
        let down : past r (advanced (s.phases p).red_revert) ≤ past r (s.phases p).red_revert - 1 = past_down r (s.phases p).red_revert in
        reverts_at y r m ((next s row).phases p).timer ((next s row).phases p).timer ((next s row).phases p).red_revert (advanced (s.phases p).red_revert)
        (interval (next s row) p) i refl runs now (omega (arith, same, down, was))

    done : interval s p ≡ Yellow → (i : Interval) → (revert_in y r ((next s row).phases p).timer (On 0) i ≡ past r (On 0)) → interval (next s row) p ≡ i →
        ((next s row).phases p).red_revert ≡ On 0 → revert_left y r ((next s row).phases p) ≤ m
    done e i same now begun =
        let run : Runs (s.phases p).timer = timed.yellow e in
        let was : revert_left y r (s.phases p) ≡ left y (On run.count) + r = rw (e, run.is) refl in
        reverts_at y r m ((next s row).phases p).timer ((next s row).phases p).timer ((next s row).phases p).red_revert (On 0)
        (interval (next s row) p) i refl begun now (omega (arith, same, was))

    yellow : interval s p ≡ Yellow → (c d : Bool) → is_cleared (moves s row) p ≡ c → yellow_is_done s.plan p (phase_read s p) ≡ d →
        revert_left y r ((next s row).phases p) ≤ m
    yellow e true true k l = done e Red refl (rw (no_start, e, k) refl) (rw (no_start, l) refl)
    yellow e true false k l =
        let it = over_in_yellow s p e (cleared_was_over s row p k) in
        absurd (true≢false (sym it.0 ∙ (rw e at l)))
    yellow e false true k l = done e RedClear refl (rw (no_start, e, k, rw e at l) refl) (rw (no_start, l) refl)
    yellow e false false k l =
        let run : Runs (s.phases p).timer = timed.yellow e in
        let now : interval (next s row) p ≡ Yellow = rw (no_start, e, k, rw e at l) refl in
        let runs : ((next s row).phases p).timer ≡ On (run.count + 1) = rw (no_start, e, k, rw e at l, run.is) refl in
        let was : revert_left y r (s.phases p) ≡ left y (On run.count) + r = rw (e, run.is) refl in
        let soon : run.count + 1 < yellow_change s.plan p = not_lasted (s.phases p).timer run.count (yellow_change s.plan p) run.is (rw e at l) in
        reverts_at y r m ((next s row).phases p).timer (On (run.count + 1)) ((next s row).phases p).red_revert ((next s row).phases p).red_revert
        (interval (next s row) p) Yellow runs refl now (omega (arith, was, soon, most))

    clear : interval s p ≡ RedClear → (c : Bool) → is_cleared (moves s row) p ≡ c → revert_left y r ((next s row).phases p) ≤ m
    clear e true k = dark Red refl (rw (no_start, e, k) refl) (rw (no_start, e) refl) (rw e refl)
    clear e false k = dark RedClear refl (rw (no_start, e, k) refl) (rw (no_start, e) refl) (rw e refl)

    go : (i : Interval) → interval s p ≡ i → revert_left y r ((next s row).phases p) ≤ m
    go Red e = dark Red refl (rw (no_start, e) refl) (rw (no_start, e) refl) (rw e refl)
    go Green e =
        reverts_at y r m ((next s row).phases p).timer ((next s row).phases p).timer ((next s row).phases p).red_revert ((next s row).phases p).red_revert
        (interval (next s row) p) Green refl refl (rw (no_start, e, no_end) refl) (omega arith)
    go Yellow e = yellow e (is_cleared (moves s row) p) (yellow_is_done s.plan p (phase_read s p)) refl refl
    go RedClear e = clear e (is_cleared (moves s row) p) refl

-- a phase that is Red and has not reverted has a tick left
pub not_yet_reverted : (s : State) (p y r : ℕ) → red_revert s.plan p ≤ r → interval s p ≡ Red → reverted s p ≡ false → 1 ≤ revert_left y r (s.phases p)
unfolding red_revert_passed
not_yet_reverted s p y r most e h = go (s.phases p).red_revert refl
  where
    go : (t : Timer) → (s.phases p).red_revert ≡ t → 1 ≤ revert_left y r (s.phases p)
    go Off k = (let bad : true ≡ false = rw (e, k) at h in absurd (true≢false bad))
    go (On n) k =
        let soon : n + 1 < red_revert s.plan p = not_reached (n + 1) (red_revert s.plan p) (rw (e, k) at h) in
        let was : revert_left y r (s.phases p) ≡ past r (On n) = rw (e, k) refl in
        omega (arith, soon, was, most)
