-- Coordinated phases are served again, while a pattern runs and no preempt is in service. The laws here are the contracts of
-- functions in src/operation.rt, and proved there, but for the last: that is STATED, NOT PROVED, and tested on runs at
-- random by `tools/reference/test_coordination.py`. Times are in tenths of a second, which are ticks.
--
-- Meanwhile no pattern is selected and nothing is committed. A pattern that is selected takes force-offs back, be it the
-- one that runs; and a commit can move an instant away each time before the local counter comes to it. So over these no
-- time bounds how long a coordinated phase waits.
--
-- Where a law has a cycle among its times, the local counter is in step as its stretch begins: while it comes into step
-- a cycle takes longer or shorter.
use Rattle.std.specs.Prelude.{◌≡◌, ◌≢◌, ℕ, ◌+◌, ◌*◌, ◌<◌, ◌≤◌, ◌==◌, Bool, true, false, not, ◌&&◌, if◌then◌else◌, max, sum_by, count_by, List, [], ◌∷◌, ◌++◌, Some, None, is_some, is_none, ◌⊎◌}
use Rattle.tsb_step.specs.tsb_types.declared.row.Row.{Row}
use Rattle.tsb_step.specs.tsb_types.declared.interval.Interval.TheVariants.{Green}
use Rattle.tsb_step.specs.tsb_types.Intervals.{is_green}
use Rattle.tsb_step.specs.tsb_plan.Parts.{cycle}
use Rattle.tsb_step.specs.tsb_plan.Plan.{Plan, phases, is_enabled, is_concurrent, side_of, walk, pedestrian_clear, yellow_change, red_clear, red_revert}
use Rattle.tsb_step.specs.tsb_rules.Consistent.{IsPhase}
use Rattle.tsb_step.specs.tsb_coord.Coordinated.{serving_order}
use Rattle.tsb_step.specs.tsb_coord.Correction.{forces, comes_to_force_off}
use Rattle.tsb_step.specs.tsb_ring.Rings.{Ring, other, number, in_ring}
use Rattle.tsb_step.specs.declared.inputs.Input.{Input}
use Rattle.tsb_step.specs.declared.inputs.Input.TheVariants.{Tick, Pattern, Commit, Clock}
use Rattle.tsb_step.specs.State.{State, interval}
use Rattle.tsb_step.specs.Tick.{service, runs, hold, callable, conflict, ready}
use Rattle.tsb_step.specs.Signs.{IsInStep}
use Rattle.tsb_step.specs.Runs.{replay, AreTaken}
use Rattle.tsb_step.specs.Laws.{IsConsistent}
use Rattle.tsb_laws.specs.Stretches.{IsUntripped, has_no_trails}
use Rattle.tsb_laws.specs.ServedCalls.{longest_initial, IsFullyConcurrent, time_by_turns}

-- a test held at each of the inputs that came later, of the state that the input found
abbrev pub HasGoneOn : (State → Input → Bool) → Plan → List Input → List Input → Type 0
HasGoneOn test plan is [] = Unit {0}
HasGoneOn test plan is (i ∷ later) = HasGoneOn test plan is later × (test (replay plan (later ++ is)) i ≡ true)

-- ## Coordinated phases are called

-- in the tick c is callable, and so each phase that is not concurrent with it has a conflict
pub record IsAwaited (s : State) (row : Row) (c : ℕ) : Type 0 where
  pub called : callable s row c ≡ true
  pub presses : (p : ℕ) → p ≢ c → is_concurrent s.plan p c ≡ false → conflict s row p ≡ true

-- While a pattern runs each of its coordinated phases is awaited in every tick in which it is not Green, whatever calls
-- there are.
abbrev pub CoordinatedAreAwaited : Type 0
CoordinatedAreAwaited = (plan : Plan) (is : List Input) (row : Row) (c : ℕ) → IsConsistent plan → AreTaken plan is →
    IsPhase (replay plan is).plan c → hold (replay plan is) c ≡ true → is_green (interval (replay plan is) c) ≡ false →
    IsAwaited (replay plan is) row c

-- ## Force-offs come

-- within a cycle of pattern k comes a tick in which the local counter is at the force-off instant of p, if plan and pattern
-- stay
pub record ComesInCycle (s : State) (k p : ℕ) : Type 0 where
  pub tick : ℕ
  pub later : s.now < tick
  pub soon : tick ≤ s.now + cycle s.plan k
  pub at_instant : comes_to_force_off s.plan s.pattern s.correction tick p ≡ true

-- So it is of each enabled phase after every run, while a pattern runs and its local counter is in step.
abbrev pub ForceOffsCome : Type 0
ForceOffsCome = (plan : Plan) (is : List Input) (k p : ℕ) → IsConsistent plan → AreTaken plan is → runs (replay plan is) ≡ Some k →
    IsInStep (replay plan is) → is_enabled (replay plan is).plan p ≡ true → ComesInCycle (replay plan is) k p

-- ## Greens that are forced off may end

-- in the tick p was Green with a conflict, a pattern ran and no preempt was in service; no other input selects a pattern
-- or commits
abbrev pub is_pressed_in_pattern : ℕ → State → Input → Bool
is_pressed_in_pattern p s (Tick row) = (is_green (interval s p) && conflict s row p) && (is_some (runs s) && is_none (service s row))
is_pressed_in_pattern p s (Pattern n) = false
is_pressed_in_pattern p s (Clock m) = false
is_pressed_in_pattern p s (Commit station) = false
is_pressed_in_pattern p s i = true

-- p is forced off, at its instant, late or in its permissive time, n ticks after the next one at the latest; n is as
-- large as its initial time, whatever it has counted, and as its walk and its pedestrian clearance together
pub record IsForcedWithin (s : State) (p n : ℕ) : Type 0 where
  pub tick : ℕ
  pub later : s.now < tick
  pub soon : tick ≤ s.now + n + 1
  pub forced : forces s.plan s.pattern s.correction tick p ≡ true
  pub initial : longest_initial s.plan p ≤ n
  pub walk : walk s.plan p + pedestrian_clear s.plan p ≤ n

-- A green that has had a conflict for so long is forced off: in the next tick it is ready. So it is of coordinated phases
-- and of all others, also where a green begins behind its own force-off instant, and while the local counter comes into
-- step.
abbrev pub ForcedGreensMayEnd : Type 0
ForcedGreensMayEnd = (plan : Plan) (base later : List Input) (row : Row) (p n : ℕ) → IsConsistent plan → plan.phase_count ≤ 16 →
    AreTaken plan (later ++ base) → IsUntripped plan base later → HasGoneOn (is_pressed_in_pattern p) plan base (Tick row ∷ later) →
    IsForcedWithin (replay plan base) p n → (replay plan base).now + n ≤ (replay plan (later ++ base)).now →
    ready (replay plan (later ++ base)) row p ≡ true

-- ## Greens that may end do so, or wait at the barrier

-- in a tick, how ring r keeps the other from crossing the barrier: it is committed, a green of it is not ready, or a phase
-- of it on this side is called
pub data KeepsAtBarrier (s : State) (row : Row) (r : Ring) : Type 0 where
  a_commitment : (c : ℕ) → s.rings.commitment r ≡ Some c → KeepsAtBarrier s row r
  a_green : (q : ℕ) → in_ring s.plan r q ≡ true → interval s q ≡ Green → ready s row q ≡ false → KeepsAtBarrier s row r
  a_call : (q : ℕ) → in_ring s.plan r q ≡ true → side_of s.plan q ≡ s.rings.side → callable s row q ≡ true → KeepsAtBarrier s row r

-- In a tick with no preempt in service a green that is ready and has a conflict ends, unless the other ring keeps it. So it
-- is in every run, in a pattern and in free operation, where all phases of one side and of different rings are concurrent.
abbrev pub ReadyGreensMakeWay : Type 0
ReadyGreensMakeWay = (plan : Plan) (is : List Input) (row : Row) (r : Ring) (p : ℕ) → IsConsistent plan → plan.phase_count ≤ 16 → AreTaken plan is →
    (replay plan is).trip ≡ None → service (replay plan is) row ≡ None → IsFullyConcurrent (replay plan is).plan →
    in_ring (replay plan is).plan r p ≡ true → interval (replay plan is) p ≡ Green → ready (replay plan is) row p ≡ true →
    conflict (replay plan is) row p ≡ true →
    (interval (replay plan (Tick row ∷ is)) p ≢ Green) ⊎ KeepsAtBarrier (replay plan is) row (other r)

-- ## Coordinated phases return

-- in the tick c was a coordinated phase of the pattern that ran, and not Green, and no preempt was in service; no other
-- input selects a pattern or commits
abbrev pub is_out : ℕ → State → Input → Bool
is_out c s (Tick row) = (hold s c && not (is_green (interval s c))) && is_none (service s row)
is_out c s (Pattern n) = false
is_out c s (Clock m) = false
is_out c s (Commit station) = false
is_out c s i = true

-- j is as large as the clearance and as the red revert of each phase; no overlap trails, which would hold its phases in
-- clearance for longer
pub record ClearsWithin (plan : Plan) (j : ℕ) : Type 0 where
  pub untrailed : has_no_trails plan ≡ true
  pub clearance : (p : ℕ) → yellow_change plan p + red_clear plan p ≤ j
  pub revert : (p : ℕ) → red_revert plan p ≤ j

-- The longest that p is Green in pattern k once it has a conflict: until it is forced off at its instant and may end. A
-- late or floating force-off and a maximum end it sooner. A permissive time ends greens that have a conflict only
-- after the instant; what has one at the instant is forced off there.
unfoldable pub longest_in_pattern : Plan → ℕ → ℕ → ℕ
longest_in_pattern plan k p = max (cycle plan k) (max (longest_initial plan p) (walk plan p + pedestrian_clear plan p))

-- its turn: until then, and until what comes after it starts
abbrev pub turn_in_pattern : Plan → ℕ → ℕ → ℕ → ℕ
turn_in_pattern plan k j p = longest_in_pattern plan k p + j + 2

-- ## Within what time

-- the order of a ring by the sequence in effect
abbrev pub order_in_effect : State → Ring → List ℕ
order_in_effect s r = serving_order s.plan s.pattern (number r)

-- j is as large as each clearance and each red revert, and h as the longest green of each phase in pattern k
pub record TurnsInPattern (plan : Plan) (k j h : ℕ) : Type 0 where
  pub clears : ClearsWithin plan j
  pub green : (p : ℕ) → longest_in_pattern plan k p ≤ h

-- Within which time a called phase c of ring r is Green, wherever the rings stand: as in free operation (ServedCalls), by
-- the turns and the orders of the pattern.
abbrev pub time_to_be_served : State → ℕ → ℕ → ℕ → Ring → ℕ → ℕ
time_to_be_served s k j h r c = time_by_turns s.plan (turn_in_pattern s.plan k j) (order_in_effect s) j h r c

-- c is callable in the tick, a pattern runs and no preempt is in service; no other input selects a pattern or commits
abbrev pub is_called_in_pattern : ℕ → State → Input → Bool
is_called_in_pattern c s (Tick row) = callable s row c && (is_some (runs s) && is_none (service s row))
is_called_in_pattern c s (Pattern n) = false
is_called_in_pattern c s (Clock m) = false
is_called_in_pattern c s (Commit station) = false
is_called_in_pattern c s i = true

-- Where all phases of one side and of different rings are concurrent, a called phase waits for so long at most, whatever
-- other calls come: a stretch of a pattern that runs, in which it is called in each tick, is no longer.
abbrev pub CalledPhasesAreServedInPatterns : Type 0
CalledPhasesAreServedInPatterns = (plan : Plan) (base later : List Input) (k j h : ℕ) (r : Ring) (c : ℕ) → IsConsistent plan → plan.phase_count ≤ 16 →
    AreTaken plan (later ++ base) → IsUntripped plan base later → IsFullyConcurrent (replay plan base).plan →
    runs (replay plan base) ≡ Some k → IsInStep (replay plan base) → in_ring (replay plan base).plan r c ≡ true →
    TurnsInPattern (replay plan base).plan k j h → HasGoneOn (is_called_in_pattern c) plan base later →
    (replay plan (later ++ base)).now ≤ (replay plan base).now + time_to_be_served (replay plan base) k j h r c

-- So a coordinated phase is not Green for so long at most.
abbrev pub CoordinatedPhasesAreServed : Type 0
CoordinatedPhasesAreServed = (plan : Plan) (base later : List Input) (k j h : ℕ) (r : Ring) (c : ℕ) → IsConsistent plan → plan.phase_count ≤ 16 →
    AreTaken plan (later ++ base) → IsUntripped plan base later → IsFullyConcurrent (replay plan base).plan →
    runs (replay plan base) ≡ Some k → IsInStep (replay plan base) → in_ring (replay plan base).plan r c ≡ true →
    TurnsInPattern (replay plan base).plan k j h → HasGoneOn (is_out c) plan base later →
    (replay plan (later ++ base)).now ≤ (replay plan base).now + time_to_be_served (replay plan base) k j h r c

-- ## Within what time it may be as well

-- p is an enabled phase of ring r on the side of c, and not c
abbrev pub is_beside : Plan → Ring → ℕ → ℕ → Bool
is_beside plan r c p = (in_ring plan r p && is_enabled plan p) && (side_of plan p == side_of plan c && not (p == c))

-- the turns of all enabled phases that pass a test
abbrev pub turns_in_pattern : Plan → ℕ → ℕ → (ℕ → Bool) → ℕ
turns_in_pattern plan k j test = sum_by (λ p. if is_enabled plan p && test p then turn_in_pattern plan k j p else 0) (phases plan)

-- The turns of all other phases, and what the rings have begun. And where its ring r has passed c, each phase of r beside
-- c may find the other ring anywhere in its order, and wait for all turns across before the barrier is crossed.
abbrev pub time_to_return : Plan → ℕ → ℕ → Ring → ℕ → ℕ
time_to_return plan k j r c =
    turns_in_pattern plan k j (λ p. not (p == c)) + j + 2
    + count_by (is_beside plan r c) (phases plan) * turns_in_pattern plan k j (is_beside plan (other r) c)

-- NOT PROVED: where all phases of one side and of different rings are concurrent, a coordinated phase is not Green for so
-- long at most, whatever calls come.
--
-- The sum of all turns alone is no bound: each time that the other ring would join in the crossing, the ring of c can be
-- called on to a later phase, and the call from across be gone until the other ring has begun its order anew.
abbrev pub CoordinatedPhasesReturn : Type 0
CoordinatedPhasesReturn = (plan : Plan) (base later : List Input) (k j : ℕ) (r : Ring) (c : ℕ) → IsConsistent plan → plan.phase_count ≤ 16 →
    AreTaken plan (later ++ base) → IsUntripped plan base later → IsFullyConcurrent (replay plan base).plan →
    runs (replay plan base) ≡ Some k → IsInStep (replay plan base) → ClearsWithin (replay plan base).plan j → in_ring (replay plan base).plan r c ≡ true →
    HasGoneOn (is_out c) plan base later →
    (replay plan (later ++ base)).now ≤ (replay plan base).now + time_to_return (replay plan base).plan k j r c
