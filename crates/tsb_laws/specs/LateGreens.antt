-- A green that begins behind its force-off instant ends late in the same cycle, where the plan says so. The laws here are
-- the contracts of a function in src/operation.rt, and proved there. Times are in tenths of a second, which are ticks.
--
-- That it is ready is said, and not that it ends: what is ready makes way or waits at the barrier (`ReadyGreensMakeWay`
-- in CoordinatedGreens).
use Rattle.std.specs.Prelude.{◌≡◌, ℕ, ◌+◌, ◌≤◌, true, false, List, ◌∷◌, ◌++◌, Some, None}
use Rattle.tsb_step.specs.tsb_types.declared.interval.Interval.TheVariants.{Green}
use Rattle.tsb_step.specs.tsb_types.declared.interval.PedestrianInterval.TheVariants.{DontWalk}
use Rattle.tsb_step.specs.tsb_types.declared.row.Row.{Row}
use Rattle.tsb_step.specs.tsb_plan.Parts.{cycle, forces_late}
use Rattle.tsb_step.specs.tsb_plan.Plan.{Plan, walk, pedestrian_clear}
use Rattle.tsb_step.specs.tsb_coord.Coordinated.{counter, force_off, yields_to, counted_on, is_from_to}
use Rattle.tsb_step.specs.tsb_coord.Correction.{counted_tick}
use Rattle.tsb_step.specs.tsb_phase.Phase.{held_of}
use Rattle.tsb_step.specs.tsb_phase.Green.{initial_has_passed}
use Rattle.tsb_step.specs.tsb_phase.Pedestrian.{pedestrian_now}
use Rattle.tsb_step.specs.declared.inputs.Input.{Input}
use Rattle.tsb_step.specs.declared.inputs.Input.TheVariants.{Tick}
use Rattle.tsb_step.specs.State.{State, interval}
use Rattle.tsb_step.specs.Tick.{service, runs, hold, conflict, phases_given, phase_read, ready}
use Rattle.tsb_step.specs.Runs.{replay, AreTaken}
use Rattle.tsb_step.specs.Laws.{IsConsistent}
use Rattle.tsb_laws.specs.Stretches.{IsUntripped}
use Rattle.tsb_laws.specs.ServedCalls.{longest_initial}
use Rattle.tsb_laws.specs.CoordinatedGreens.{HasGoneOn, is_pressed_in_pattern}

-- The plan forces off late, p is not coordinated in the pattern that runs, and in the next tick the local counter has
-- come to the instant of p and not to that of the coordinated phase that p yields to, also where it has begun anew at 0
-- in between.
pub record IsInLateSpan (s : State) (p : ℕ) : Type 0 where
  pub late : forces_late s.plan ≡ true
  pub number : ℕ
  pub runs : runs s ≡ Some number
  pub other : hold s p ≡ false
  pub instant : ℕ
  pub own : force_off s.plan (Some number) p ≡ Some instant
  pub coordinated : ℕ
  pub yields : yields_to s.plan number p ≡ Some coordinated
  pub limit : ℕ
  pub until : force_off s.plan (Some number) coordinated ≡ Some limit
  pub within : is_from_to (cycle s.plan number) (counter s.plan number (counted_tick s.plan s.pattern s.correction (s.now + 1))) instant (counted_on (cycle s.plan number) instant limit) ≡ true

-- ## In one tick

-- in the tick a Green phase is in its late span, with a conflict and no preempt in service; its initial time has passed,
-- and its pedestrian part is DontWalk
pub record IsLateGreen (s : State) (row : Row) (p : ℕ) : Type 0 where
  pub green : interval s p ≡ Green
  pub span : IsInLateSpan s p
  pub conflict : conflict s row p ≡ true
  pub quiet : service s row ≡ None
  pub initial : initial_has_passed s.plan (phases_given s row) p (held_of (phase_read s p)) ≡ true
  pub dont_walk : pedestrian_now s.plan (phases_given s row) p (phase_read s p) ≡ DontWalk

-- In every run such a green is ready.
abbrev pub LateGreensAreReady : Type 0
LateGreensAreReady = (plan : Plan) (is : List Input) (row : Row) (p : ℕ) → IsConsistent plan → plan.phase_count ≤ 16 →
    AreTaken plan is → IsLateGreen (replay plan is) row p → ready (replay plan is) row p ≡ true

-- ## Over ticks

-- A green that comes into its late span, or begins in it, is ready in a tick as soon as it has had a conflict in each for
-- its initial time, whatever it has counted, and for its walk and its pedestrian clearance together.
abbrev pub LateGreensMayEnd : Type 0
LateGreensMayEnd = (plan : Plan) (base later : List Input) (row : Row) (p n : ℕ) → IsConsistent plan → plan.phase_count ≤ 16 →
    AreTaken plan (later ++ base) → IsUntripped plan base later → HasGoneOn (is_pressed_in_pattern p) plan base (Tick row ∷ later) →
    IsInLateSpan (replay plan base) p → longest_initial (replay plan base).plan p ≤ n →
    walk (replay plan base).plan p + pedestrian_clear (replay plan base).plan p ≤ n →
    (replay plan base).now + n ≤ (replay plan (later ++ base)).now → ready (replay plan (later ++ base)) row p ≡ true
