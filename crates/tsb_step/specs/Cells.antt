-- The cells of the whole controller, layer after layer in one row, and how they are read at a tick. The clock by which
-- timers are written and read stops while the controller is tripped.
--
-- | Cells from | Whose |
-- |---|---|
-- | 0 | the plan's: of each object in order, its value at each index |
-- | `first_cell.DESK` | the desk's |
-- | `first_cell.DETECTORS` | the detectors' |
-- | `first_cell.CALLS` | the calls' |
-- | `first_cell.PHASES` | the phases' |
-- | `first_cell.RINGS` | the rings' |
-- | `first_cell.COORD` | coordination's, with the clock |
-- | `first_cell.PREEMPTS` | the preempts' |
-- | `first_cell.OVERLAPS` | the overlaps' |
-- | `first_cell.MONITOR` | the monitor's and the injected lamp's |
--
-- These numbers are in `src/first_cell.rt`, each as a sum; `proofs/Examples/CellsExamples.antt` has them in digits.
use Rattle.std.specs.Prelude.{ℕ, List, ◌++◌, Option, Some, None}
use Rattle.tsb_cells.specs.Row.{row_at}
use Rattle.tsb_objects.specs.tsb_plan.declared.object.TheConstants.{PLAN_CELLS}
use Rattle.tsb_objects.specs.tsb_plan.PlanOf.{plan_in, plan_cells}
use Rattle.tsb_detect.specs.declared.TheConstants.{CELLS as DETECTOR_CELLS}
use Rattle.tsb_detect.specs.Cells.{detectors_cells, detector_in}
use Rattle.tsb_transact.specs.declared.TheConstants.{CELLS as DESK_CELLS}
use Rattle.tsb_transact.specs.Cells.{desk_cells, desk_in}
use Rattle.tsb_calls.specs.declared.TheConstants.{CELLS as CALL_CELLS}
use Rattle.tsb_calls.specs.Cells.{memories_cells, memories_in}
use Rattle.tsb_phase.specs.declared.TheConstants.{CELLS as PHASE_CELLS}
use Rattle.tsb_phase.specs.Cells.{phases_cells, phase_in}
use Rattle.tsb_ring.specs.declared.TheConstants.{CELLS as RING_CELLS}
use Rattle.tsb_ring.specs.Cells.{rings_cells, rings_in}
use Rattle.tsb_coord.specs.declared.TheConstants.{CELLS as PATTERN_CELLS}
use Rattle.tsb_coord.specs.Cells.{pattern_cells, pattern_in, correction_in, start_in}
use Rattle.tsb_preempt.specs.declared.TheConstants.{CELLS as PREEMPT_CELLS}
use Rattle.tsb_preempt.specs.Cells.{preempts_cells, preempts_in}
use Rattle.tsb_overlap.specs.declared.TheConstants.{CELLS as OVERLAP_CELLS}
use Rattle.tsb_overlap.specs.Cells.{overlaps_cells, overlap_in, omitted_in}
use Rattle.tsb_step.specs.declared.TheConstants.{MONITOR_CELLS}
use Rattle.tsb_step.specs.declared.first_cell.TheConstants as first_cell
use Rattle.tsb_step.specs.MonitorCells.{monitor_cells, lamp_in, trip_in}
use Rattle.tsb_step.specs.State.{Tripped, State}

-- ## The clock

-- the tick number at which the controller tripped, or else the one in force
abbrev pub clock_at : ℕ → Option Tripped → ℕ
clock_at now None = now
clock_at now (Some trip) = trip.tick

-- the clock by which the timers of a state are written
abbrev pub clock : State → ℕ
clock s = clock_at s.now s.trip

-- ## Writing

-- THE TABLE: the cells of the controller
unfoldable pub cells_of : State → List ℕ
cells_of s =
    plan_cells s.plan
    ++ desk_cells s.desk
    ++ detectors_cells (clock s) s.detectors
    ++ memories_cells s.memories
    ++ phases_cells (clock s) s.phases
    ++ rings_cells s.rings
    ++ pattern_cells s.pattern s.correction s.start_moment
    ++ preempts_cells (clock s) s.preempts
    ++ overlaps_cells (clock s) s.overlaps s.omitted
    ++ monitor_cells s.lamp s.trip

-- ## Reading

-- the desk's cells among all
abbrev pub desk_row : List ℕ → List ℕ
desk_row row = row_at DESK_CELLS row first_cell.DESK

-- the cells of vehicle detectors
abbrev pub detectors_row : List ℕ → List ℕ
detectors_row row = row_at DETECTOR_CELLS row first_cell.DETECTORS

-- those of calls
abbrev pub calls_row : List ℕ → List ℕ
calls_row row = row_at CALL_CELLS row first_cell.CALLS

-- those of phases
abbrev pub phases_row : List ℕ → List ℕ
phases_row row = row_at PHASE_CELLS row first_cell.PHASES

-- those of the rings
abbrev pub rings_row : List ℕ → List ℕ
rings_row row = row_at RING_CELLS row first_cell.RINGS

-- the cells of coordination; the first has the pattern
abbrev pub pattern_row : List ℕ → List ℕ
pattern_row row = row_at PATTERN_CELLS row first_cell.COORD

-- the cells of preempts
abbrev pub preempts_row : List ℕ → List ℕ
preempts_row row = row_at PREEMPT_CELLS row first_cell.PREEMPTS

-- the cells of overlaps
abbrev pub overlaps_row : List ℕ → List ℕ
overlaps_row row = row_at OVERLAP_CELLS row first_cell.OVERLAPS

-- those of the monitor, with the injected lamp
abbrev pub monitor_row : List ℕ → List ℕ
monitor_row row = row_at MONITOR_CELLS row first_cell.MONITOR

-- the clock by which timers are read in all these cells, which have the trip
abbrev pub clock_in : ℕ → List ℕ → ℕ
clock_in now row = clock_at now (trip_in (monitor_row row))

-- the controller at tick number `now` with these cells
unfoldable pub state_in : ℕ → List ℕ → State
state_in now row = record {
  now = now;
  plan = plan_in (row_at PLAN_CELLS row 0);
  desk = desk_in (desk_row row);
  pattern = pattern_in (pattern_row row);
  correction = correction_in (pattern_row row);
  start_moment = start_in (pattern_row row);
  detectors = detector_in (clock_in now row) (detectors_row row);
  memories = memories_in (calls_row row);
  phases = phase_in (clock_in now row) (phases_row row);
  rings = rings_in (rings_row row);
  preempts = preempts_in (clock_in now row) (preempts_row row);
  overlaps = overlap_in (clock_in now row) (overlaps_row row);
  omitted = omitted_in (overlaps_row row);
  lamp = lamp_in (monitor_row row);
  trip = trip_in (monitor_row row);
}
