-- What the calls look at: nothing but phases and the detectors that a plan has.
-- LooksOnlyAtItsOwn and TicksGiveNext are the contract of a function in src/laws.rt that does nothing.
use Rattle.std.specs.Prelude.{◌≡◌, ℕ, ◌≤◌, Bool, false, List}
use Rattle.tsb_objects.specs.tsb_types.Clip.{Agree}
use Rattle.tsb_objects.specs.tsb_types.Sets.{has, is_phase}
use Rattle.tsb_objects.specs.tsb_plan.Plan.{Plan, is_enabled}
use Rattle.tsb_objects.specs.tsb_plan.declared.object.Object.TheVariants.{VehicleDetectorCallPhase}
use Rattle.tsb_calls.specs.declared.observed.Observed.{Observed}
use Rattle.tsb_calls.specs.declared.decided.Decided.{Decided}
use Rattle.tsb_calls.specs.Memories.{Memories, Given, has_output, as_set}
use Rattle.tsb_calls.specs.Callable.{has_pedestrian_call, is_callable, has_conflict}
use Rattle.tsb_calls.specs.Settled.{Done, settled, pedestrian_call, next}
use Rattle.tsb_calls.specs.Cells.{memories_in}
use Rattle.tsb_calls.specs.Promises.{given_of, done_of, IsSet, IsSettled}

-- two that a tick has for the calls, and that say the same of phases and of the plan's detectors
pub record AgreeOnPhases (plan : Plan) (g h : Given) : Type 0 where
  pub output : (d : ℕ) → 1 ≤ d → d ≤ plan.counts.vehicle_detectors → g.output d ≡ h.output d
  pub actuated : (d : ℕ) → 1 ≤ d → d ≤ plan.counts.vehicle_detectors → g.actuated d ≡ h.actuated d
  pub button : (d : ℕ) → 1 ≤ d → d ≤ plan.counts.pedestrian_detectors → g.button d ≡ h.button d
  pub interval : Agree g.interval h.interval
  pub pedestrian_part : Agree g.pedestrian_part h.pedestrian_part
  pub runs : g.runs ≡ h.runs
  pub omitted : Agree g.omitted h.omitted
  pub service_ended : g.service_ended ≡ h.service_ended

-- two memories that are the same of phases
pub record AreAlike (m n : Memories) : Type 0 where
  pub vehicle : Agree m.vehicle n.vehicle
  pub pedestrian : Agree m.pedestrian n.pedestrian
  pub count : Agree m.count n.count

-- two that the rings did, the same of phases
pub record AgreeOnMoves (d e : Done) : Type 0 where
  pub starts : Agree d.starts e.starts
  pub ends : Agree d.ends e.ends
  pub gapped : Agree d.gapped e.gapped
  pub walks : Agree d.walks e.walks
  pub service : d.service ≡ e.service

-- then what is set and what is called is the same of phases: `m` and `n` are the memories as set
pub record AreCalledAlike (plan : Plan) (g h : Given) (m n : Memories) : Type 0 where
  pub callable : Agree (is_callable plan g m) (is_callable plan h n)
  pub conflict : Agree (has_conflict plan g m) (has_conflict plan h n)
  pub pedestrian : Agree (has_pedestrian_call plan g m) (has_pedestrian_call plan h n)
  pub output : Agree (has_output plan g) (has_output plan h)

-- of a plan with 16 phases at most
pub record LookAlike (plan : Plan) (g h : Given) : Type 0 where
  pub sets : (v w : Memories) → AreAlike v w → AreAlike (as_set plan g v) (as_set plan h w)
  pub called : (m n : Memories) → AreAlike m n → AreCalledAlike plan g h m n
  pub settles : (d e : Done) (f k : ℕ → Bool) (m n : Memories) → AgreeOnMoves d e → Agree f k → AreAlike m n →
      AreAlike (settled d f m) (settled e k n)

-- so what is set, called and settled depends on nothing else
abbrev pub LooksOnlyAtItsOwn : Type 0
LooksOnlyAtItsOwn = (plan : Plan) (g h : Given) → plan.phase_count ≤ 16 → AgreeOnPhases plan g h → LookAlike plan g h

-- ## A whole tick

-- a plan has 16 phases at most; what is no phase is not enabled, and no detector calls it
pub record IsPlaced (plan : Plan) : Type 0 where
  pub count : plan.phase_count ≤ 16
  pub enabled : (p : ℕ) → is_phase p ≡ false → is_enabled plan p ≡ false
  pub called : (d : ℕ) → 1 ≤ d → d ≤ plan.counts.vehicle_detectors → plan.value VehicleDetectorCallPhase d ≤ 16

-- what is no phase does not start and does not end
pub record MovesPhases (d : Done) : Type 0 where
  pub starts : (p : ℕ) → is_phase p ≡ false → d.starts p ≡ false
  pub ends : (p : ℕ) → is_phase p ≡ false → d.ends p ≡ false

-- A tick and what the rings then did give the memories after a tick as they are defined, of all numbers: where `tick`
-- was given what `given` says of phases, and `settle` what `done` says and the pedestrian calls of this tick.
abbrev pub TicksGiveNext : Type 0
TicksGiveNext = (plan : Plan) (given : Given) (done : Done) (observed : Observed) (decided : Decided) (old mid new : List ℕ) →
    IsPlaced plan → AgreeOnPhases plan (given_of observed) given → AgreeOnMoves (done_of decided) done → MovesPhases done →
    Agree (has decided.pedestrian) (pedestrian_call plan given (memories_in old)) →
    IsSet observed plan old mid → IsSettled decided mid new → memories_in new ≡ next plan given done (memories_in old)
