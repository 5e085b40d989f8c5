-- By what a green may end in a pattern besides its instant: by floating force-off once it has lasted its split, by a
-- maximum once its conflict has lasted that, and a coordinated one within its permissive time; each where the plan says
-- so. The laws here are the contracts of functions in src/operation.rt, and proved there. Times are in tenths of a
-- second, which are ticks.
--
-- That a green is ready is said, and not that it ends: what is ready makes way or waits at the barrier
-- (`ReadyGreensMakeWay` in CoordinatedGreens).
use Rattle.std.specs.Prelude.{◌≡◌, ℕ, ◌+◌, ◌<◌, ◌≤◌, true, List, ◌∷◌, ◌++◌, Some, None, ◌⊎◌}
use Rattle.tsb_step.specs.tsb_cells.Timer.{has_reached}
use Rattle.tsb_step.specs.tsb_types.declared.interval.Interval.TheVariants.{Green}
use Rattle.tsb_step.specs.tsb_types.declared.interval.PedestrianInterval.TheVariants.{DontWalk}
use Rattle.tsb_step.specs.tsb_types.declared.row.Row.{Row}
use Rattle.tsb_step.specs.tsb_plan.Parts.{cycle, permissive_time}
use Rattle.tsb_step.specs.tsb_plan.Plan.{Plan, walk, pedestrian_clear}
use Rattle.tsb_step.specs.tsb_plan.Running.{pattern_maximum}
use Rattle.tsb_step.specs.tsb_coord.Coordinated.{counter, force_off}
use Rattle.tsb_step.specs.tsb_coord.Correction.{counted_tick}
use Rattle.tsb_step.specs.tsb_phase.Phase.{held_of}
use Rattle.tsb_step.specs.tsb_phase.Green.{conflict_timer, initial_has_passed}
use Rattle.tsb_step.specs.tsb_phase.Pedestrian.{pedestrian_now}
use Rattle.tsb_step.specs.declared.inputs.Input.{Input}
use Rattle.tsb_step.specs.declared.inputs.Input.TheVariants.{Tick}
use Rattle.tsb_step.specs.State.{State, interval}
use Rattle.tsb_step.specs.Tick.{service, runs, hold, conflict, phases_given, phase_read, ready}
use Rattle.tsb_step.specs.Runs.{replay, AreTaken}
use Rattle.tsb_step.specs.Laws.{IsConsistent}
use Rattle.tsb_laws.specs.Stretches.{IsUntripped}
use Rattle.tsb_laws.specs.ServedCalls.{longest_initial}
use Rattle.tsb_laws.specs.GreenEnds.{HasFloated}
use Rattle.tsb_laws.specs.CoordinatedGreens.{HasGoneOn, is_pressed_in_pattern}

-- in the tick p was Green, has a conflict and no preempt in service; its initial time has passed, and its pedestrian
-- part is DontWalk: nothing but what ends its green is lacking
pub record LacksOnlyItsEnd (s : State) (row : Row) (p : ℕ) : Type 0 where
  pub green : interval s p ≡ Green
  pub conflict : conflict s row p ≡ true
  pub quiet : service s row ≡ None
  pub initial : initial_has_passed s.plan (phases_given s row) p (held_of (phase_read s p)) ≡ true
  pub dont_walk : pedestrian_now s.plan (phases_given s row) p (phase_read s p) ≡ DontWalk

-- p has been Green with a conflict in each tick of a pattern since `base`, for its initial time, whatever it has
-- counted, and for its walk and its pedestrian clearance together
pub record HasWaitedInPattern (plan : Plan) (base later : List Input) (row : Row) (p n : ℕ) : Type 0 where
  pub pressed : HasGoneOn (is_pressed_in_pattern p) plan base (Tick row ∷ later)
  pub initial : longest_initial (replay plan base).plan p ≤ n
  pub walks : walk (replay plan base).plan p + pedestrian_clear (replay plan base).plan p ≤ n
  pub long : (replay plan base).now + n ≤ (replay plan (later ++ base)).now

-- ## Floating force-off

-- In every run such a green is ready once it has lasted its floating time.
abbrev pub FloatingGreensAreReady : Type 0
FloatingGreensAreReady = (plan : Plan) (is : List Input) (row : Row) (p : ℕ) → IsConsistent plan → plan.phase_count ≤ 16 →
    AreTaken plan is → (replay plan is).trip ≡ None → LacksOnlyItsEnd (replay plan is) row p → HasFloated plan p is →
    ready (replay plan is) row p ≡ true

-- And so it is as soon as it has waited for so long, be it from its begin or later. So no such green waits longer than
-- its split, its initial time and its pedestrian times ask for.
abbrev pub FloatingGreensMayEnd : Type 0
FloatingGreensMayEnd = (plan : Plan) (base later : List Input) (row : Row) (p n : ℕ) → IsConsistent plan → plan.phase_count ≤ 16 →
    AreTaken plan (later ++ base) → IsUntripped plan base later → HasWaitedInPattern plan base later row p n →
    HasFloated plan p (later ++ base) → ready (replay plan (later ++ base)) row p ≡ true

-- ## Maximums in patterns

-- in the tick a conflict of p has stood for the maximum that acts on it while the pattern runs
pub record HasMaxedInPattern (s : State) (row : Row) (p : ℕ) : Type 0 where
  pub number : ℕ
  pub runs : runs s ≡ Some number
  pub maximum : ℕ
  pub acts : pattern_maximum s.plan (Some number) p ≡ Some maximum
  pub long : has_reached (conflict_timer (phases_given s row) p (held_of (phase_read s p))) maximum ≡ true

-- In every run a green is ready then.
abbrev pub MaximumGreensAreReady : Type 0
MaximumGreensAreReady = (plan : Plan) (is : List Input) (row : Row) (p : ℕ) → IsConsistent plan → plan.phase_count ≤ 16 →
    AreTaken plan is → LacksOnlyItsEnd (replay plan is) row p → HasMaxedInPattern (replay plan is) row p → ready (replay plan is) row p ≡ true

-- And so it is as soon as it has waited for so long, and for that maximum.
abbrev pub MaximumGreensMayEnd : Type 0
MaximumGreensMayEnd = (plan : Plan) (base later : List Input) (row : Row) (p n m : ℕ) → IsConsistent plan → plan.phase_count ≤ 16 →
    AreTaken plan (later ++ base) → IsUntripped plan base later → HasWaitedInPattern plan base later row p n →
    pattern_maximum (replay plan base).plan (runs (replay plan base)) p ≡ Some m → m ≤ n → ready (replay plan (later ++ base)) row p ≡ true

-- ## The permissive time

-- the local counter of pattern n in the next tick, as it goes, also while it comes into step
abbrev pub next_counter : State → ℕ → ℕ
next_counter s n = counter s.plan n (counted_tick s.plan s.pattern s.correction (s.now + 1))

-- p is coordinated in the pattern that runs, and in the next tick the local counter is at most the permissive time
-- behind the instant of p, in this cycle or from the last one on
pub record IsInPermissiveTime (s : State) (p : ℕ) : Type 0 where
  pub number : ℕ
  pub runs : runs s ≡ Some number
  pub held : hold s p ≡ true
  pub some : 0 < permissive_time s.plan number
  pub instant : ℕ
  pub own : force_off s.plan (Some number) p ≡ Some instant
  pub within : ((instant ≤ next_counter s number) × (next_counter s number ≤ instant + permissive_time s.plan number))
      ⊎ (next_counter s number + cycle s.plan number ≤ instant + permissive_time s.plan number)

-- In every run a coordinated green is ready then.
abbrev pub PermittedGreensAreReady : Type 0
PermittedGreensAreReady = (plan : Plan) (is : List Input) (row : Row) (p : ℕ) → IsConsistent plan → plan.phase_count ≤ 16 →
    AreTaken plan is → LacksOnlyItsEnd (replay plan is) row p → IsInPermissiveTime (replay plan is) p → ready (replay plan is) row p ≡ true

-- And one that had a conflict in its permissive time is ready as soon as it has waited for so long.
abbrev pub PermittedGreensMayEnd : Type 0
PermittedGreensMayEnd = (plan : Plan) (base later : List Input) (row : Row) (p n : ℕ) → IsConsistent plan → plan.phase_count ≤ 16 →
    AreTaken plan (later ++ base) → IsUntripped plan base later → HasWaitedInPattern plan base later row p n →
    IsInPermissiveTime (replay plan base) p → ready (replay plan (later ++ base)) row p ≡ true
