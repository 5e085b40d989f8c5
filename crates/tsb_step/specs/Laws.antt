-- What holds of every run of the controller, as statements: that what it shows is safe, that starts wait for what they
-- do not go with, that rings act in either order, and that a preempt in service has phases to serve. A run is a list of
-- inputs of any kind, each of which was taken, from power-up with a plan that breaks no rule.
--
-- All are proved, each as the contract of a function that does nothing (src/laws.rt).
use Rattle.std.specs.Prelude.{◌≡◌, ℕ, nat_le, Bool, true, false, not, ◌&&◌, ◌||◌, List, [], ◌∷◌, Some, None, is_some, ◌⊎◌}
use Rattle.tsb_types.specs.declared.interval.PedestrianInterval.TheVariants.{DontWalk}
use Rattle.tsb_types.specs.declared.row.Row.{Row}
use Rattle.tsb_types.specs.Intervals.{in_service, is_green}
use Rattle.tsb_objects.specs.tsb_plan.declared.object.Object.{Object}
use Rattle.tsb_objects.specs.tsb_plan.declared.plan.Plan as memory
use Rattle.tsb_objects.specs.tsb_plan.Plan.{Plan, all_counts, is_concurrent}
use Rattle.tsb_objects.specs.tsb_plan.declared.object.ObjectId.{ObjectId}
use Rattle.tsb_objects.specs.tsb_plan.PlanOf.{plan_of, put_refusal}
use Rattle.tsb_objects.specs.tsb_rules.Consistent.{AreCompatible}
use Rattle.tsb_objects.specs.tsb_rules.Rules.{first_broken}
use Rattle.tsb_ring.specs.declared.ring_order.RingOrder.{RingOrder}
use Rattle.tsb_ring.specs.Laws.{Agree}
use Rattle.tsb_ring.specs.Moves.{acted, is_started}
use Rattle.tsb_preempt.specs.Service.{Service, has_track, has_dwell, has_exit, stage_phases}
use Rattle.tsb_types.specs.declared.stage.Stage.{Stage}
use Rattle.tsb_types.specs.declared.stage.Stage.TheVariants.{Track, Dwell, Exit}
use Rattle.tsb_step.specs.declared.inputs.Input.{Input}
use Rattle.tsb_step.specs.declared.inputs.Input.TheVariants.{Tick, Fault, Reset}
use Rattle.tsb_step.specs.State.{State, interval}
use Rattle.tsb_step.specs.Tables.{has_place, place_refusal}
use Rattle.tsb_step.specs.Tick.{moves, over, after_moves}
use Rattle.tsb_step.specs.Signs.{IsSafe}
use Rattle.tsb_step.specs.Runs.{replay, AreTaken}
use Rattle.tsb_step.specs.Past.{record_of}
use Rattle.tsb_step.specs.Quiet.{IsQuiet}

-- a plan that breaks no rule, and gives nothing where it has no place
pub record IsConsistent (plan : Plan) : Type 0 where
  pub rules : first_broken plan ≡ None
  pub placed : (o : Object) (i : ℕ) → has_place plan o i ≡ false → plan.value o i ≡ 0

-- a plan has as many phases, sides, detectors, overlaps and preempts as a plan in memory
pub record IsWide (plan : Plan) : Type 0 where
  pub phases : plan.phase_count ≡ 16
  pub sides : plan.side_count ≡ 4
  pub counts : plan.counts ≡ all_counts

-- what is said of every state of every run
abbrev pub OfEveryRun : (State → Type 0) → Type 0
OfEveryRun fact = (plan : Plan) (is : List Input) → IsConsistent plan → AreTaken plan is → fact (replay plan is)

-- ## Safety

-- The display is safe in the plan in effect: any two phases with right of way are equal or concurrent.
abbrev pub DisplaysAreSafe : Type 0
DisplaysAreSafe = OfEveryRun IsSafe

-- More than that: any two phases in service, Green, Yellow or in red clearance, are equal or concurrent.
abbrev pub ServesTogether : State → Type 0
ServesTogether s = (p q : ℕ) → in_service (interval s p) ≡ true → in_service (interval s q) ≡ true → Agree s.plan p q

-- So it is after every run, by the concurrency of the plan in effect then.
abbrev pub ServedGoTogether : Type 0
ServedGoTogether = OfEveryRun ServesTogether

-- The plan in effect breaks no rule, whatever was committed.
abbrev pub PlansStayConsistent : Type 0
PlansStayConsistent = OfEveryRun (λ s. IsConsistent s.plan)

-- Pedestrians walk or clear only beside a Green phase.
abbrev pub WalksBesideGreen : State → Type 0
WalksBesideGreen s = (p : ℕ) → is_green (interval s p) ≡ false → (s.phases p).pedestrian ≡ DontWalk

-- So it is after every run, also under a preempt and while the controller flashes.
abbrev pub WalksAreBesideGreens : Type 0
WalksAreBesideGreens = OfEveryRun WalksBesideGreen

-- ## Starts

-- A phase starts only when every phase that was in service and is not concurrent with it is over.
abbrev pub StartsWaiting : State → Type 0
StartsWaiting s = (row : Row) (p q : ℕ) → is_started (moves s row) p ≡ true → in_service (interval s q) ≡ true →
    (is_concurrent s.plan p q ≡ true) ⊎ (over s q ≡ true)

-- So it is in each tick after every run, whatever inputs are on in it.
abbrev pub StartsWait : Type 0
StartsWait = OfEveryRun StartsWaiting

-- ## Rings

-- The rings after a tick are what comes of its moves, whichever ring acts first; of whatever state.
abbrev pub RingsActInEitherOrder : Type 0
RingsActInEitherOrder = (s : State) (row : Row) (order : RingOrder) → acted order (moves s row) s.rings ≡ (after_moves s row).rings

-- ## Preempts

-- the list of the stage is not empty
abbrev pub has_stage : Plan → ℕ → Stage → Bool
has_stage plan n Track = has_track plan n
has_stage plan n Dwell = has_dwell plan n
has_stage plan n Exit = has_exit plan n

-- the plan has a preempt of this number
abbrev pub is_preempt_of : Plan → ℕ → Bool
is_preempt_of plan n = nat_le 1 n && nat_le n plan.counts.preempts

-- the preempt in service is one of the plan's; the list of its stage is not empty, and names enabled phases that are
-- pairwise concurrent
pub record HasPhases (plan : Plan) (x : Service) : Type 0 where
  pub preempt : is_preempt_of plan x.preempt ≡ true
  pub some : has_stage plan x.preempt x.stage ≡ true
  pub compatible : AreCompatible plan (stage_phases plan x.preempt x.stage)

-- A preempt in service, if there is one, has phases to serve in its stage, and they go together.
abbrev pub ServesPreempt : State → Type 0
ServesPreempt s = (x : Service) → s.preempts.service ≡ Some x → HasPhases s.plan x

-- So it is after every run, whatever lists of phases were committed.
abbrev pub PreemptsHavePhases : Type 0
PreemptsHavePhases = OfEveryRun ServesPreempt

-- ## The monitor

-- a fault that lights a lamp
abbrev pub lights : Input → Bool
lights (Fault lamp) = is_some lamp
lights i = false

-- no lamp was lit since power-up, or since the last reset of a controller that had tripped
abbrev pub is_unlit : Plan → List Input → Bool
is_unlit plan [] = true
is_unlit plan (Reset ∷ is) = is_some (replay plan is).trip || is_unlit plan is
is_unlit plan (i ∷ is) = not (lights i) && is_unlit plan is

-- The controller has not tripped where no lamp was lit.
abbrev pub FaultsAloneTrip : Type 0
FaultsAloneTrip = (plan : Plan) (is : List Input) → IsConsistent plan → AreTaken plan is → is_unlit plan is ≡ true →
    (replay plan is).trip ≡ None

-- ## Plans in memory

-- A plan in memory that breaks no rule is one of those that all this is said of.
abbrev pub MemoryIsConsistent : Type 0
MemoryIsConsistent = (plan : memory.Plan) → first_broken (plan_of plan) ≡ None → IsConsistent (plan_of plan)

-- With as many of each thing as such a plan has, a value is refused exactly when a plan in memory refuses it.
abbrev pub MemoryRefusesTheSame : Type 0
MemoryRefusesTheSame = (plan : Plan) (id : ObjectId) (v : ℕ) → IsWide plan → place_refusal plan id v ≡ put_refusal id v

-- ## Quiet ticks

-- The record of a quiet tick has no entry.
abbrev pub QuietTicksWriteNothing : Type 0
QuietTicksWriteNothing = (row : Row) (before after : State) → IsQuiet before after →
    (record_of (Tick row) before after).entries ≡ []
