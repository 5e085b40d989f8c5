-- Ticks that may be passed over: what a tick finds that leaves the phases as they were, and that ticks after it with the
-- same inputs find and leave the same.
use Rattle.std.specs.Prelude.{◌≡◌, ℕ, ◌-◌, ◌⊎◌, is_some, ◌<◌, ◌≤◌, nat_lt, Bool, true, false, List, length, slice_get, Option, Some, None, option_map}
use Rattle.tsb_step.specs.tsb_types.declared.flow.Called.{Called}
use Rattle.tsb_step.specs.tsb_types.declared.flow.Intervals.{Intervals}
use Rattle.tsb_step.specs.tsb_types.declared.lamp.Lamp.{Lamp}
use Rattle.tsb_step.specs.tsb_types.declared.limits.TheConstants.{VEHICLE_DETECTORS}
use Rattle.tsb_step.specs.tsb_types.declared.row.Row.{Row}
use Rattle.tsb_step.specs.tsb_types.declared.stage.Stage.{Stage}
use Rattle.tsb_step.specs.tsb_plan.Plan.{Plan}
use Rattle.tsb_detect.specs.declared.greens.Greens.{Greens}
use Rattle.tsb_detect.specs.Cells.{detector_in}
use Rattle.tsb_detect.specs.Promises as detect
use Rattle.tsb_calls.specs.Promises as calls
use Rattle.tsb_phase.specs.declared.conditions.Conditions.{Conditions}
use Rattle.tsb_phase.specs.Promises as phases
use Rattle.tsb_heads.specs.declared.monitor.Trip.{Trip}
use Rattle.tsb_coord.specs.Due as coord_due
use Rattle.tsb_coord.specs.Promises as coord
use Rattle.tsb_preempt.specs.Cells.{preempts_in}
use Rattle.tsb_preempt.specs.Due as preempts_due
use Rattle.tsb_preempt.specs.Service.{Service, stage_phases}
use Rattle.tsb_overlap.specs.declared.surroundings.Surroundings.{Surroundings}
use Rattle.tsb_overlap.specs.Promises as overlaps
use Rattle.tsb_step.specs.declared.first_cell.TheConstants.{PHASES}
use Rattle.tsb_controller.specs.declared.values.Sensed.{Sensed}
use Rattle.tsb_controller.specs.Found.{observed, AreConditions, AreSeen, HasNoneTimed}
use Rattle.tsb_controller.specs.Promises.{IsTicked, IsWatchedTick}
use Rattle.tsb_controller.specs.Records.{changes}
use Rattle.tsb_controller.specs.Rows.{Rows, AreBy}

-- `due(now, row, plan)`, clause `quiet`: each tick after `now` and before the one that is due, with these inputs, makes
-- of the rows what they are
abbrev pub AreQuietUntil : ℕ → Row → Plan → Rows → ℕ → Type 0
AreQuietUntil now row plan rows due = (t : ℕ) → now < t → t < due → IsTicked t row plan rows rows

-- ## The tick before them

-- no row changed but those of detectors and calls
abbrev pub LeavesPhases : Rows → Rows → Type 0
LeavesPhases old new = old ≡ record new { detectors = old.detectors; calls = old.calls }

-- tick `now` left these rows, and the phases with what comes after them as they were
pub record IsSettled (now : ℕ) (row : Row) (plan : Plan) (rows : Rows) : Type 0 where
  pub old : Rows
  pub by : AreBy (now - 1) old
  pub ticked : IsTicked now row plan old rows
  pub rest : LeavesPhases old rows

-- no output of a detector rose in it
abbrev pub NoneRose : ℕ → Rows → Type 0
NoneRose now rows = (d : ℕ) → 1 ≤ d → d ≤ VEHICLE_DETECTORS → (detector_in now rows.detectors d).actuated ≡ false

-- ## Of phases

-- the phases that a stage of a preempt wants served; no stage wants any
abbrev pub wanted_in : Plan → Option (ℕ × Stage) → Option (ℕ → Bool)
wanted_in plan None = None
wanted_in plan (Some x) = Some (stage_phases plan x.0 x.1)

-- what tick `now` finds before the calls, read in the rows that it leaves, the phases as they were: no service ends
pub record IsSeen (now : ℕ) (plan : Plan) (rows : Rows) (s : Sensed) : Type 0 where
  pub shown : phases.TellsIntervals rows.phases s.intervals
  pub walking : phases.TellsPedestrians rows.phases s.pedestrians
  pub outputs_are : detect.TellsOutputs rows.detectors s.outputs
  pub actuated_are : detect.TellsActuations rows.detectors s.actuated
  pub standing : preempts_due.AreStanding now plan rows.preempts s.asked
  pub served : (n : ℕ) → s.service ≡ option_map (λ (x : Service). x.preempt) (preempts_in n rows.preempts).service
  pub ordered : coord.AreOrders now plan rows.pattern s.coordination

-- what phase timing is given by it: the calls, and the counts in `mid`, the calls' row as set
pub record AreTold (row : Row) (plan : Plan) (rows : Rows) (s : Sensed) (c : Conditions) : Type 0 where
  pub called : Called
  pub mid : List ℕ
  pub counts : List ℕ
  pub sets : calls.IsSet (observed row s) plan rows.calls mid
  pub calls_told : calls.TellsCalled (observed row s) plan rows.calls called
  pub lent : calls.LendsCounts mid counts
  pub conditions_are : AreConditions s called counts c

-- given this, phases stay, and ticks find the same of them, up to the tick that is due
pub record ArePhasesStill (now : ℕ) (row : Row) (plan : Plan) (rows : Rows) (due : ℕ) : Type 0 where
  pub sensed : Sensed
  pub conditions : Conditions
  pub seen : IsSeen now plan rows sensed
  pub told : AreTold row plan rows sensed conditions
  pub quiet : phases.IsQuiet now conditions plan rows.phases due
  pub ready : phases.KeepsReady now conditions plan rows.phases due
  pub over : phases.KeepsOver now plan rows.phases due
  pub reverted : phases.KeepsRedRevertPassed now plan rows.phases due
  pub gapped : phases.KeepsGapped now conditions plan rows.phases due
  pub walks : phases.KeepsWalks now conditions rows.phases due

-- ## Of overlaps

-- overlaps stay up to the tick that is due, while phases, rings and preempts are as these rows have them
pub record AreOverlapsQuiet (now : ℕ) (plan : Plan) (rows : Rows) (due : ℕ) : Type 0 where
  pub seen : Surroundings
  pub intervals : Intervals
  pub shown : phases.TellsIntervals rows.phases intervals
  pub preempted : Bool
  pub served : (n : ℕ) → preempted ≡ is_some (preempts_in n rows.preempts).service
  pub seen_are : AreSeen intervals.green preempted rows.phases rows.rings seen
  pub quiet : overlaps.AreQuietUntil now seen plan rows.overlaps due

-- or the plan has none that could change
abbrev pub AreOverlapsStill : ℕ → Plan → Rows → ℕ → Type 0
AreOverlapsStill now plan rows due = HasNoneTimed plan ⊎ AreOverlapsQuiet now plan rows due

-- ## Of the other layers

-- detectors, preempts and overlaps stay, and coordination asks the same, up to the tick that is due
pub record AreOthersStill (now : ℕ) (row : Row) (plan : Plan) (rows : Rows) (due : ℕ) : Type 0 where
  pub intervals : Intervals
  pub shown : phases.TellsIntervals rows.phases intervals
  pub greens : Greens
  pub greens_are : detect.phases_of greens ≡ intervals.green
  pub since_are : phases.TellsSince rows.phases (detect.since_of greens)
  pub detectors : detect.IsQuiet now due row plan rows.detectors
  pub preempts : preempts_due.AreQuietUntil now row intervals plan rows.preempts due
  pub coordination : coord_due.KeepsOrders now plan rows.pattern due
  pub overlaps : AreOverlapsStill now plan rows due

-- ## With the record and the monitor

-- the cell of the entry comes before those of phases, or there is no entry
abbrev pub is_before_phases : Option (ℕ × ℕ) → Bool
is_before_phases None = true
is_before_phases (Some e) = nat_lt e.0 PHASES

-- the last entry is of a cell of detectors or calls, which come before those of phases, or there is no entry
abbrev pub ends_before_phases : List (ℕ × ℕ) → Bool
ends_before_phases es = is_before_phases (slice_get es (length es - 1))

-- where a tick's record ends before the cells of phases, no row changed but those of detectors and calls
abbrev pub EarlyRecordsLeavePhases : Type 0
EarlyRecordsLeavePhases = (m n : ℕ) (old new : Rows) → AreBy m old → AreBy n new → ends_before_phases (changes old new) ≡ true → LeavesPhases old new

-- a tick that the monitor watched, whatever it found, is a tick
abbrev pub WatchedTicksAreTicked : Type 0
WatchedTicksAreTicked = (now : ℕ) (row : Row) (lamp : Option Lamp) (plan : Plan) (old new : Rows) (found : Option Trip) →
    IsWatchedTick now row lamp plan old new found → IsTicked now row plan old new

-- where the monitor found nothing in a tick that left the phases as they were, it finds nothing in one that leaves all
-- rows as they are
abbrev pub WatchedTicksPass : Type 0
WatchedTicksPass = (now t : ℕ) (row : Row) (lamp : Option Lamp) (plan : Plan) (old rows : Rows) → LeavesPhases old rows →
    IsWatchedTick now row lamp plan old rows None → IsTicked t row plan rows rows → IsWatchedTick t row lamp plan rows rows None
