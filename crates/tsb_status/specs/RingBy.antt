-- The status of a ring, from its phase in service as it was given: the definition of tsb_step, with what was found of
-- the phase in place of the state.
use Rattle.std.specs.Prelude.{ℕ, nat_lt, Bool, not, ◌&&◌, ◌||◌, if◌then◌else◌, Option, Some, None, option_map}
use Rattle.tsb_step.specs.tsb_cells.Timer.{is_on}
use Rattle.tsb_step.specs.tsb_types.declared.interval.Interval.{Interval}
use Rattle.tsb_step.specs.tsb_types.declared.interval.Interval.TheVariants.{Red, Green, Yellow, RedClear}
use Rattle.tsb_step.specs.tsb_types.Intervals.{is_green, is_yellow, is_red_clear, is_walk, is_clearance}
use Rattle.tsb_step.specs.tsb_plan.Plan.{Plan, yellow_change, red_clear}
use Rattle.tsb_phase.specs.Green.{gap, is_gapped, acting_maximum}
use Rattle.tsb_phase.specs.Pedestrian.{ended_by, walk_time, clearance_time}
use Rattle.tsb_phase.specs.Phase.{held_of}
use Rattle.tsb_step.specs.declared.status.RingPart.{RingPart}
use Rattle.tsb_step.specs.declared.status.RingPart.TheVariants as parts
use Rattle.tsb_step.specs.Waits.{left, gap_left, time_to_last}
use Rattle.tsb_status.specs.declared.rings.PhaseFound.{PhaseFound}
use Rattle.tsb_status.specs.declared.status.RingStatus.{RingStatus}
use Rattle.tsb_status.specs.Times.{phase_by, given_by}

-- of its initial time
abbrev pub initial_by : Plan → PhaseFound → ℕ
initial_by plan q =
    left (time_to_last plan (given_by q.found q.times) q.phase (ended_by (given_by q.found q.times) q.phase)) q.times.timer

-- of its walk
abbrev pub walk_by : Plan → PhaseFound → ℕ
walk_by plan q = left (walk_time plan q.phase (ended_by (given_by q.found q.times) q.phase)) q.times.pedestrian_timer

-- of its pedestrian clearance
abbrev pub clearance_by : Plan → PhaseFound → ℕ
clearance_by plan q = left (clearance_time plan q.phase (ended_by (given_by q.found q.times) q.phase)) q.times.pedestrian_timer

-- of the maximum that acts on it
abbrev pub maximum_by : Plan → PhaseFound → Option ℕ
maximum_by plan q =
    option_map (λ m. left m q.times.conflict) (acting_maximum plan q.found.runs q.phase q.times.running_maximum)

-- one of these goes on
abbrev pub times_minimum_by : Plan → PhaseFound → Bool
times_minimum_by plan q =
    nat_lt 0 (initial_by plan q) || (is_walk q.times.pedestrian && nat_lt 0 (walk_by plan q)) || is_clearance q.times.pedestrian

-- the part of a green
abbrev pub green_part_by : Plan → PhaseFound → RingPart
green_part_by plan q =
    if times_minimum_by plan q then parts.MinimumGreen else
    (if not (is_gapped plan (given_by q.found q.times) q.phase (held_of (phase_by q.times))) then parts.Extension else
    (if is_on q.times.conflict then parts.Maximum else parts.GreenRest))

-- in an interval
abbrev pub part_in_by : Plan → PhaseFound → Interval → RingPart
part_in_by plan q Red = parts.RedRest
part_in_by plan q Green = green_part_by plan q
part_in_by plan q Yellow = parts.YellowChange
part_in_by plan q RedClear = parts.RedClearance

-- in its own
abbrev pub part_by : Plan → PhaseFound → RingPart
part_by plan q = part_in_by plan q q.times.interval

-- a value where a test holds
abbrev pub when : Bool → ℕ → Option ℕ
when test value = if test then Some value else None

-- with this phase in service
abbrev pub served_by : Plan → Option ℕ → PhaseFound → Option ℕ → RingStatus
served_by plan next q force_off_in = record {
  part = part_by plan q;
  phase = Some q.phase;
  next = next;
  initial_left = when (is_green q.times.interval) (initial_by plan q);
  gap = when (is_green q.times.interval) (gap plan q.phase q.times.reduction);
  gap_left = when (is_green q.times.interval) (gap_left plan q.phase (phase_by q.times));
  maximum_left = if is_green q.times.interval && is_on q.times.conflict then maximum_by plan q else None;
  walk_left = when (is_walk q.times.pedestrian) (walk_by plan q);
  clearance_left = when (is_clearance q.times.pedestrian) (clearance_by plan q);
  yellow_left = when (is_yellow q.times.interval) (left (yellow_change plan q.phase) q.times.timer);
  red_clearance_left = when (is_red_clear q.times.interval) (left (red_clear plan q.phase) q.times.timer);
  force_off_in = force_off_in;
}

-- a ring
abbrev pub ring_by : Plan → Option ℕ → Option PhaseFound → Option ℕ → RingStatus
ring_by plan next None force_off_in = record {
  part = parts.RedRest;
  phase = None;
  next = next;
  initial_left = None;
  gap = None;
  gap_left = None;
  maximum_left = None;
  walk_left = None;
  clearance_left = None;
  yellow_left = None;
  red_clearance_left = None;
  force_off_in = None;
}
ring_by plan next (Some q) force_off_in = served_by plan next q force_off_in
