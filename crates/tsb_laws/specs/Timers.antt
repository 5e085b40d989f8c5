-- The timers that have a cell, which cell that is among all of the controller, and what a tick makes of a timer that
-- stays Off or runs on.
use Rattle.std.specs.Prelude.{ℕ, ◌+◌, ◌*◌, ◌≤◌, Option, Some, None, List, Contains, is_some, if◌then◌else◌}
use Rattle.tsb_step.specs.tsb_cells.declared.timer.Timer.{Timer}
use Rattle.tsb_step.specs.tsb_cells.declared.timer.Timer.TheVariants.{Off}
use Rattle.tsb_step.specs.tsb_cells.Timer.{advanced}
use Rattle.tsb_step.specs.tsb_types.declared.limits.TheConstants.{OVERLAPS, PREEMPTS, VEHICLE_DETECTORS}
use Rattle.tsb_step.specs.tsb_preempt.Service.{Service}
use Rattle.tsb_step.specs.declared.first_cell.TheConstants as first_cell
use Rattle.tsb_step.specs.State.{State}

-- the on-time of a detector is none: while the input is on it is the change timer
pub data Place : Type 0 where
  -- of a vehicle detector
  Change : ℕ → Place
  Extend : ℕ → Place
  -- of a phase
  Interval : ℕ → Place
  Pedestrian : ℕ → Place
  Passage : ℕ → Place
  Conflict : ℕ → Place
  Reduction : ℕ → Place
  RedRevert : ℕ → Place
  -- of a preempt, and of the one in service
  Delay : ℕ → Place
  Served : Place
  Track : Place
  -- of an overlap that has intervals of its own
  Overlap : ℕ → Place

-- its number is one of those that there are
abbrev pub IsPlace : Place → Type 0
IsPlace (Delay n) = (1 ≤ n) × (n ≤ PREEMPTS)
IsPlace Served = Unit {0}
IsPlace Track = Unit {0}
IsPlace (Overlap o) = (1 ≤ o) × (o ≤ OVERLAPS)
IsPlace (Change d) = (1 ≤ d) × (d ≤ VEHICLE_DETECTORS)
IsPlace (Extend d) = (1 ≤ d) × (d ≤ VEHICLE_DETECTORS)
IsPlace (Interval p) = (1 ≤ p) × (p ≤ 16)
IsPlace (Pedestrian p) = (1 ≤ p) × (p ≤ 16)
IsPlace (Passage p) = (1 ≤ p) × (p ≤ 16)
IsPlace (Conflict p) = (1 ≤ p) × (p ≤ 16)
IsPlace (Reduction p) = (1 ≤ p) × (p ≤ 16)
IsPlace (RedRevert p) = (1 ≤ p) × (p ≤ 16)

-- the timers of a service; Off without one
abbrev pub served : Option Service → Timer
served None = Off
served (Some x) = x.timer

-- the stage timer of a service, Off where none is
abbrev pub tracked : Option Service → Timer
tracked None = Off
tracked (Some x) = x.stage_timer

-- the timer of a state
abbrev pub timer_of : Place → State → Timer
timer_of (Change d) s = (s.detectors d).change
timer_of (Extend d) s = (s.detectors d).extend
timer_of (Interval p) s = (s.phases p).timer
timer_of (Pedestrian p) s = (s.phases p).pedestrian_timer
timer_of (Passage p) s = (s.phases p).passage
timer_of (Conflict p) s = (s.phases p).conflict
timer_of (Reduction p) s = (s.phases p).reduction
timer_of (RedRevert p) s = (s.phases p).red_revert
timer_of (Delay n) s = s.preempts.delay n
timer_of Served s = served s.preempts.service
timer_of Track s = tracked s.preempts.service
timer_of (Overlap o) s = (s.overlaps o).timer

-- the number of its cell among all of the controller
abbrev pub cell_of : Place → ℕ
cell_of (Change d) = first_cell.DETECTORS + (11 + VEHICLE_DETECTORS + d)
cell_of (Extend d) = first_cell.DETECTORS + (11 + 2 * VEHICLE_DETECTORS + d)
cell_of (Interval p) = first_cell.PHASES + (3 + p)
cell_of (Pedestrian p) = first_cell.PHASES + (19 + p)
cell_of (Passage p) = first_cell.PHASES + (35 + p)
cell_of (Conflict p) = first_cell.PHASES + (51 + p)
cell_of (Reduction p) = first_cell.PHASES + (67 + p)
cell_of (RedRevert p) = first_cell.PHASES + (83 + p)
cell_of (Delay n) = first_cell.PREEMPTS + (1 + n)
cell_of Served = first_cell.PREEMPTS + (4 + PREEMPTS)
cell_of Track = first_cell.PREEMPTS + (5 + PREEMPTS)
cell_of (Overlap o) = first_cell.OVERLAPS + (5 + o)

-- a timer after a tick in which it stayed Off or ran on; in a controller that has tripped timers rest
abbrev pub waits : State → Timer → Timer
waits s t = if is_some s.trip then t else advanced t

-- none of the entries is of this cell
abbrev pub HasNone : List (ℕ × ℕ) → ℕ → Type 0
HasNone entries cell = (old : ℕ) → Contains entries (cell, old) → ⊥
