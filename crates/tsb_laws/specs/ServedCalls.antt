-- Calls are served in time, in free operation and with no preempt in service. Each law here is the contract of a
-- function in src/operation.rt, and proved there; `tools/reference/test_stated_laws.py` tests them on runs at random
-- besides. Times are in tenths of a second, which are ticks.
--
-- All but the first are of plans in which all phases of one side and of different rings are concurrent. Where they
-- are not, a ring can wait for ever for a phase across that its own next phase does not go with.
use Rattle.std.specs.Prelude.{◌≡◌, ◌≢◌, ℕ, ◌+◌, ◌*◌, ◌≤◌, Bool, true, false, not, ◌&&◌, if◌then◌else◌, max, List, [], ◌∷◌, ◌++◌, Option, Some, None, is_some, is_none, ◌⊎◌}
use Rattle.tsb_step.specs.tsb_types.declared.row.Row.{Row}
use Rattle.tsb_step.specs.tsb_types.Intervals.{is_green, in_service}
use Rattle.tsb_step.specs.tsb_types.Lists.{among, later, or_else}
use Rattle.tsb_step.specs.tsb_plan.Plan.{Plan, phases, is_enabled, is_concurrent, side_of, sequence, has_variable_initial, minimum_green, maximum_initial, maximum, walk, pedestrian_clear, yellow_change, red_clear, red_revert}
use Rattle.tsb_step.specs.tsb_phase.DynamicMaximum.{is_dynamic, highest_maximum}
use Rattle.tsb_step.specs.tsb_ring.Rings.{Ring, Ring1, Ring2, other, number, in_ring}
use Rattle.tsb_step.specs.tsb_ring.Wants.{is_on_side}
use Rattle.tsb_step.specs.declared.inputs.Input.{Input}
use Rattle.tsb_step.specs.declared.inputs.Input.TheVariants.{Tick, Commit}
use Rattle.tsb_step.specs.State.{State, interval}
use Rattle.tsb_step.specs.Tick.{service, runs, callable, conflict, ready}
use Rattle.tsb_step.specs.Runs.{replay, AreTaken}
use Rattle.tsb_step.specs.Laws.{IsConsistent}
use Rattle.tsb_laws.specs.Stretches.{IsUntripped, has_held_since, has_no_trails, largest}

-- no preempt is in service in the tick, and no pattern runs: the rings go on by calls alone
abbrev pub is_free : State → Row → Bool
is_free s row = is_none (service s row) && is_none (runs s)

-- ## How long a green lasts that has a conflict

-- the longest that the maximum in use of p can be
abbrev pub longest_maximum : Plan → ℕ → ℕ
longest_maximum plan p = if is_dynamic plan p then highest_maximum plan p else maximum plan p

-- and its initial time, whatever it has counted
abbrev pub longest_initial : Plan → ℕ → ℕ
longest_initial plan p = if has_variable_initial plan p then max (minimum_green plan p) (maximum_initial plan p) else minimum_green plan p

-- p was Green in the tick, with a conflict, in free operation and no preempt in service; any other input passes
abbrev pub is_pressed : ℕ → State → Input → Bool
is_pressed p s (Tick row) = is_green (interval s p) && conflict s row p && is_free s row
is_pressed p s i = true

-- so it was in each tick that came later
abbrev pub HasBeenPressed : Plan → ℕ → List Input → List Input → Type 0
HasBeenPressed plan p is [] = Unit {0}
HasBeenPressed plan p is (i ∷ later) = HasBeenPressed plan p is later × (is_pressed p (replay plan (later ++ is)) i ≡ true)

-- n is as large as the longest maximum and initial time of p, and as its walk and its pedestrian clearance together;
-- each is the largest by the plans in effect meanwhile, where a commit changes it
pub record IsDoneWithin (plan : Plan) (base : List Input) (p n : ℕ) (later : List Input) : Type 0 where
  pub maximum : largest (λ x. longest_maximum x p) plan base later ≤ n
  pub initial : largest (λ x. longest_initial x p) plan base later ≤ n
  pub pedestrians : largest (λ x. walk x p) plan base later + largest (λ x. pedestrian_clear x p) plan base later ≤ n

-- A green that has had a conflict for so long may end: in the next tick it is ready, whatever else comes meanwhile.
abbrev pub PressedGreensMayEnd : Type 0
PressedGreensMayEnd = (plan : Plan) (base later : List Input) (row : Row) (p n : ℕ) → IsConsistent plan → plan.phase_count ≤ 16 →
    AreTaken plan (later ++ base) → IsUntripped plan base later → HasBeenPressed plan p base (Tick row ∷ later) →
    IsDoneWithin plan base p n later → (replay plan base).now + n ≤ (replay plan (later ++ base)).now →
    ready (replay plan (later ++ base)) row p ≡ true

-- ## A called phase waits

-- any two enabled phases of one side and of different rings are concurrent
abbrev pub IsFullyConcurrent : Plan → Type 0
IsFullyConcurrent plan = (r : Ring) (p q : ℕ) → in_ring plan r p ≡ true → in_ring plan (other r) q ≡ true →
    is_enabled plan p ≡ true → is_enabled plan q ≡ true → side_of plan p ≡ side_of plan q → is_concurrent plan p q ≡ true

-- q is callable in the tick, in free operation and with no preempt in service; no other input is a commit
abbrev pub is_waiting : ℕ → State → Input → Bool
is_waiting q s (Tick row) = callable s row q && is_free s row
is_waiting q s (Commit station) = false
is_waiting q s i = true

-- so it was in each tick that came later: q has been called, and has not been served
abbrev pub HasWaited : Plan → ℕ → List Input → List Input → Type 0
HasWaited plan q is [] = Unit {0}
HasWaited plan q is (i ∷ later) = HasWaited plan q is later × (is_waiting q (replay plan (later ++ is)) i ≡ true)

-- the longest that p is Green once it has a conflict
unfoldable pub longest_green : Plan → ℕ → ℕ
longest_green plan p = max (longest_maximum plan p) (max (longest_initial plan p) (walk plan p + pedestrian_clear plan p))

-- k is as large as the clearance and as the red revert of each phase, and h as the longest green of each; no overlap trails,
-- which would hold its phases in clearance for longer
pub record TurnsTakeAtMost (plan : Plan) (k h : ℕ) : Type 0 where
  pub untrailed : has_no_trails plan ≡ true
  pub clearance : (p : ℕ) → yellow_change plan p + red_clear plan p ≤ k
  pub revert : (p : ℕ) → red_revert plan p ≤ k
  pub green : (p : ℕ) → longest_green plan p ≤ h

-- the turn of a phase: as long as its ring may clear for it, and it may be Green
abbrev pub turn : Plan → ℕ → ℕ → ℕ
turn plan k p = longest_green plan p + k + 2

-- ## What the phases of a list take

-- the times of those of a list that pass a test
abbrev pub times_where : (ℕ → Bool) → (ℕ → ℕ) → List ℕ → ℕ
times_where test time [] = 0
times_where test time (p ∷ ps) = (if test p then time p else 0) + times_where test time ps

-- of those that are on side d
abbrev pub times_on : (ℕ → ℕ) → Plan → ℕ → List ℕ → ℕ
times_on time plan d ps = times_where (is_on_side plan d) time ps

-- the turns of those on side d
abbrev pub turns : Plan → ℕ → ℕ → List ℕ → ℕ
turns plan k d ps = times_on (turn plan k) plan d ps

-- ## On the side that is served

-- the order of a ring in free operation
abbrev pub order : Plan → Ring → List ℕ
order plan r = sequence plan 1 (number r)

-- how far the ring has come in it: the phase that it is committed to, or started last
abbrev pub place : State → Ring → Option ℕ
place s r = or_else (s.rings.commitment r) (s.rings.last r)

-- what comes later in it
abbrev pub still_to_come : State → Ring → List ℕ
still_to_come s r = later (place s r) (order s.plan r)

-- q is still to come in the order of its ring r, on the side that is served and outside a crossing. The ring does not
-- clear with no commitment, as where a preempt has ended its green and is over.
pub record IsToCome (s : State) (r : Ring) (q : ℕ) : Type 0 where
  pub ringed : in_ring s.plan r q ≡ true
  pub beside : side_of s.plan q ≡ s.rings.side
  pub outside : s.rings.crossing ≡ None
  pub ahead : (s.rings.commitment r ≡ Some q) ⊎ (among q (still_to_come s r) ≡ true)
  pub bound : (p : ℕ) → in_ring s.plan r p ≡ true → in_service (interval s p) ≡ true → is_green (interval s p) ≡ false →
      is_some (s.rings.commitment r) ≡ true

-- within which time it comes: what the ring has begun, and the turns of what is still to come on this side
abbrev pub time_to_come : State → Ring → ℕ → ℕ → ℕ
time_to_come s r k h = turns s.plan k s.rings.side (still_to_come s r) + h + k + 1

-- A called phase that is still to come waits for so long at most: a stretch in which it is called in each tick, and not
-- Green, is no longer.
abbrev pub CalledPhasesCome : Type 0
CalledPhasesCome = (plan : Plan) (base later : List Input) (r : Ring) (q k h : ℕ) → IsConsistent plan → plan.phase_count ≤ 16 →
    AreTaken plan (later ++ base) → IsUntripped plan base later → IsFullyConcurrent (replay plan base).plan →
    TurnsTakeAtMost (replay plan base).plan k h → IsToCome (replay plan base) r q → HasWaited plan q base later →
    (replay plan (later ++ base)).now ≤ (replay plan base).now + time_to_come (replay plan base) r k h

-- ## Across the barrier

-- no crossing is under way
abbrev pub is_outside : State → Bool
is_outside s = is_none s.rings.crossing

-- within which time one begins: what both rings have begun, and the turns of what is still to come in each on this side
abbrev pub time_to_cross : State → ℕ → ℕ → ℕ
time_to_cross s k h =
    turns s.plan k s.rings.side (still_to_come s Ring1) + turns s.plan k s.rings.side (still_to_come s Ring2) + 2 * (h + 2 * k + 1)

-- While a phase of another side is called in each tick, a crossing of the barrier begins in that time: a stretch in
-- which none does is no longer.
abbrev pub CrossingsBegin : Type 0
CrossingsBegin = (plan : Plan) (base later : List Input) (q k h : ℕ) → IsConsistent plan → plan.phase_count ≤ 16 →
    AreTaken plan (later ++ base) → IsUntripped plan base later → IsFullyConcurrent (replay plan base).plan →
    TurnsTakeAtMost (replay plan base).plan k h → side_of (replay plan base).plan q ≢ (replay plan base).rings.side →
    HasWaited plan q base later → has_held_since is_outside plan base later ≡ true →
    (replay plan (later ++ base)).now ≤ (replay plan base).now + time_to_cross (replay plan base) k h

-- ## On whatever side

-- Below, `time` is the turn of each phase, and `order` the order of each ring. `k` is as large as each clearance and each
-- red revert, and `h` as the longest green of each phase. CoordinatedGreens has the turns and orders of a pattern.

-- what a ring has begun takes so long at most
abbrev pub time_begun : ℕ → ℕ → ℕ
time_begun k h = h + 2 * k + 1

-- the other ring comes to the barrier in so long: what it has begun, and its turns on the side of q
abbrev pub time_across : Plan → (ℕ → ℕ) → (Ring → List ℕ) → ℕ → ℕ → Ring → ℕ → ℕ
time_across plan time order k h r q = times_on time plan (side_of plan q) (order (other r)) + time_begun k h

-- both rings leave the side of q in so long, where ring r has passed q: it may be called on to each phase beside q, and find
-- the other ring anywhere in its order
abbrev pub time_to_leave : Plan → (ℕ → ℕ) → (Ring → List ℕ) → ℕ → ℕ → Ring → ℕ → ℕ
time_to_leave plan time order k h r q =
    time_begun k h + 1 + time_across plan time order k h r q
    + times_on (λ p. time p + time_across plan time order k h r q + 1) plan (side_of plan q) (order r)

-- both come through all other sides in so long, with the crossings to them
abbrev pub time_elsewhere : Plan → (ℕ → ℕ) → ℕ → ℕ → ℕ
time_elsewhere plan time k q =
    times_where (λ p. is_enabled plan p && not (is_on_side plan (side_of plan q) p)) time (phases plan) + plan.side_count * (3 * k + 3)

-- and q comes in its turn in so long, after the crossing to its side
abbrev pub time_to_come_home : Plan → (ℕ → ℕ) → (Ring → List ℕ) → ℕ → Ring → ℕ → ℕ
time_to_come_home plan time order k r q = times_on time plan (side_of plan q) (order r) + k + 2

-- Within which time a called phase q of ring r is Green, wherever the rings have come: a crossing that is under way, the way
-- from its side, all other sides, and its turn.
abbrev pub time_by_turns : Plan → (ℕ → ℕ) → (Ring → List ℕ) → ℕ → ℕ → Ring → ℕ → ℕ
time_by_turns plan time order k h r q =
    k + 1 + time_to_leave plan time order k h r q + time_elsewhere plan time k q + time_to_come_home plan time order k r q

-- in free operation
abbrev pub time_to_serve : Plan → Ring → ℕ → ℕ → ℕ → ℕ
time_to_serve plan r q k h = time_by_turns plan (turn plan k) (order plan) k h r q

-- A called phase waits for so long at most, on whatever side it is: a stretch in which it is called in each tick, and
-- not Green, is no longer. Without the waits for the other ring beside q that is FALSE: docs/trust/SAFETY.md has a run.
abbrev pub CalledPhasesAreServed : Type 0
CalledPhasesAreServed = (plan : Plan) (base later : List Input) (r : Ring) (q k h : ℕ) → IsConsistent plan → plan.phase_count ≤ 16 →
    AreTaken plan (later ++ base) → IsUntripped plan base later → IsFullyConcurrent (replay plan base).plan →
    TurnsTakeAtMost (replay plan base).plan k h → in_ring (replay plan base).plan r q ≡ true → HasWaited plan q base later →
    (replay plan (later ++ base)).now ≤ (replay plan base).now + time_to_serve (replay plan base).plan r q k h
