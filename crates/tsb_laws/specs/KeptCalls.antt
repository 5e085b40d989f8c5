-- Calls are kept: what a detector or a button asks for is remembered, and what is remembered lasts until it is served,
-- whatever inputs come but the reset of a trip. Each law here is the contract of a function in src/operation.rt, and
-- proved there.
--
-- A plan here has 16 phases at most, as every plan in memory has: no pedestrian call is given of a phase of a greater
-- number.
use Rattle.std.specs.Prelude.{◌≡◌, ◌≢◌, ℕ, ◌≤◌, Bool, true, false, ◌&&◌, List, [], ◌∷◌, ◌++◌, None, is_some, ◌⊎◌}
use Rattle.tsb_step.specs.tsb_types.declared.interval.Interval.TheVariants.{Green}
use Rattle.tsb_step.specs.tsb_types.declared.interval.PedestrianInterval.TheVariants.{Walk}
use Rattle.tsb_step.specs.tsb_types.declared.row.Row.{Row}
use Rattle.tsb_step.specs.tsb_plan.Plan.{Plan, is_enabled, is_non_locking}
use Rattle.tsb_step.specs.tsb_rules.Rules.{serves_pedestrians}
use Rattle.tsb_step.specs.tsb_calls.Memories.{has_output, has_button}
use Rattle.tsb_step.specs.declared.inputs.Input.{Input}
use Rattle.tsb_step.specs.declared.inputs.Input.TheVariants.{Tick}
use Rattle.tsb_step.specs.State.{State, interval, pedestrian_part}
use Rattle.tsb_step.specs.Tick.{calls_given}
use Rattle.tsb_step.specs.Step.{step}
use Rattle.tsb_step.specs.Runs.{replay, AreTaken}
use Rattle.tsb_step.specs.Laws.{IsConsistent, OfEveryRun}
use Rattle.tsb_step.specs.TimeLaws.{is_reset}
use Rattle.tsb_laws.specs.Stretches.{StartsGreen}

-- the input starts the controller anew: it resets one that has tripped
abbrev pub restarts : State → Input → Bool
restarts s i = is_some s.trip && is_reset i

-- none of the inputs that came later did so
abbrev pub RunsOn : Plan → List Input → List Input → Type 0
RunsOn plan is [] = Unit {0}
RunsOn plan is (i ∷ later) = RunsOn plan is later × (restarts (replay plan (later ++ is)) i ≡ false)

-- ## From a detector into memory

-- p turns Green in the tick
pub record TurnsGreen (s : State) (row : Row) (p : ℕ) : Type 0 where
  pub was_not : interval s p ≢ Green
  pub turns : interval (step s (Tick row)) p ≡ Green

-- the walk of p begins in the tick
pub record BeginsWalk (s : State) (row : Row) (p : ℕ) : Type 0 where
  pub was_not : pedestrian_part s p ≢ Walk
  pub begins : pedestrian_part (step s (Tick row)) p ≡ Walk

-- An output that calls an enabled, locking phase which was not Green is remembered after the tick, or the phase turns
-- Green in it. A button that calls an enabled phase with a walk which was not in Walk is remembered, or the walk begins.
pub record Remembers (s : State) (row : Row) (p : ℕ) : Type 0 where
  pub vehicle : is_enabled s.plan p ≡ true → is_non_locking s.plan p ≡ false → interval s p ≢ Green →
      has_output s.plan (calls_given s row) p ≡ true →
      ((step s (Tick row)).memories.vehicle p ≡ true) ⊎ TurnsGreen s row p
  pub pedestrian : serves_pedestrians s.plan p ≡ true → pedestrian_part s p ≢ Walk →
      has_button s.plan (calls_given s row) p ≡ true →
      ((step s (Tick row)).memories.pedestrian p ≡ true) ⊎ BeginsWalk s row p

-- So it is of each phase in each tick after every run, while the controller has not tripped.
abbrev pub CallsAreRemembered : Type 0
CallsAreRemembered = OfEveryRun (λ s. (row : Row) (p : ℕ) → s.plan.phase_count ≤ 16 → s.trip ≡ None → Remembers s row p)

-- ## From memory to service

-- p turned Green in one of the ticks that came later: in the tick `next` after the inputs `older` of them
pub record HasTurnedGreen (plan : Plan) (base : List Input) (p : ℕ) (later : List Input) : Type 0 where
  pub older : List Input
  pub next : Row
  pub newer : List Input
  pub parts : later ≡ newer ++ (Tick next ∷ older)
  pub started : StartsGreen plan (older ++ base) next p

-- A remembered vehicle call lasts until its phase turns Green.
abbrev pub VehicleCallsStand : Type 0
VehicleCallsStand = (plan : Plan) (is later : List Input) (p : ℕ) → IsConsistent plan → AreTaken plan (later ++ is) →
    RunsOn plan is later → (replay plan is).memories.vehicle p ≡ true →
    ((replay plan (later ++ is)).memories.vehicle p ≡ true) ⊎ HasTurnedGreen plan is p later

-- the walk of p began in one of the ticks that came later
pub record HasBegunWalk (plan : Plan) (base : List Input) (p : ℕ) (later : List Input) : Type 0 where
  pub older : List Input
  pub next : Row
  pub newer : List Input
  pub parts : later ≡ newer ++ (Tick next ∷ older)
  pub begun : BeginsWalk (replay plan (older ++ base)) next p

-- A remembered pedestrian call lasts until its phase's walk begins.
abbrev pub PedestrianCallsStand : Type 0
PedestrianCallsStand = (plan : Plan) (is later : List Input) (p : ℕ) → IsConsistent plan → plan.phase_count ≤ 16 →
    AreTaken plan (later ++ is) → RunsOn plan is later → (replay plan is).memories.pedestrian p ≡ true →
    ((replay plan (later ++ is)).memories.pedestrian p ≡ true) ⊎ HasBegunWalk plan is p later
