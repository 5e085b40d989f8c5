-- What the log of a controller sees of the layers, over the controller's rows.
use Rattle.std.specs.Prelude.{◌≡◌, ℕ, ◌+◌, ◌≤◌, Bool, false, not, ◌&&◌, is_some, List}
use Rattle.std.specs.List.{list_any}
use Rattle.tsb_step.specs.tsb_types.declared.flow.Intervals.{Intervals}
use Rattle.tsb_step.specs.tsb_types.declared.flow.Pedestrians.{Pedestrians}
use Rattle.tsb_step.specs.tsb_types.declared.limits.TheConstants.{OVERLAPS}
use Rattle.tsb_step.specs.tsb_types.declared.number_set.NumberSet.{NumberSet}
use Rattle.tsb_step.specs.tsb_types.declared.phase_set.PhaseSet.{PhaseSet}
use Rattle.tsb_step.specs.tsb_types.Clip.{Agree}
use Rattle.tsb_step.specs.tsb_types.Lists.{run_from}
use Rattle.tsb_step.specs.tsb_types.Sets.{has, has_number}
use Rattle.tsb_step.specs.tsb_plan.Plan.{Plan}
use Rattle.tsb_step.specs.tsb_plan.Running.{running}
use Rattle.tsb_detect.specs.Promises.{TellsActuations, TellsOutputs}
use Rattle.tsb_calls.specs.declared.observed.Observed.{Observed}
use Rattle.tsb_calls.specs.declared.standing.Standing.{Standing}
use Rattle.tsb_calls.specs.Promises.{TellsStanding}
use Rattle.tsb_coord.specs.Cells.{correction_in, pattern_in}
use Rattle.tsb_coord.specs.Cycle.{comes_to_zero, cycle_state, yields}
use Rattle.tsb_overlap.specs.Cells.{IsBy, overlap_in}
use Rattle.tsb_overlap.specs.Overlap.{is_trail_green}
use Rattle.tsb_step.specs.Cells.{clock_at}
use Rattle.tsb_step.specs.Events.{is_by, selected, times_minimum, times_red, view}
use Rattle.tsb_events.specs.declared.seen.Seen.{Seen}
use Rattle.tsb_events.specs.declared.seen.Selected.{Selected}
use Rattle.tsb_events.specs.Agree.{AgreeInAll, AgreeInSelected}
use Rattle.tsb_events.specs.Seen.{selected_of, view_of}
use Rattle.tsb_controller.specs.Rows.{Rows, Beside, state_of}

-- overlap o is none of the lit ones, and none of the phases in service is one by which it is lit
abbrev pub is_off_beside : Plan → NumberSet → PhaseSet → ℕ → Bool
is_off_beside plan lit served o =
    not (has_number lit o) && not (list_any (λ p. is_by plan o p && has served p) (run_from 1 16))

-- the overlaps that are green after their phases, at whatever tick of a controller that can be in these rows; in flash none
abbrev pub TellsTrails : Bool → Rows → NumberSet → Type 0
TellsTrails tripped rows result = (now o : ℕ) → IsBy now rows.overlaps → 1 ≤ o → o ≤ OVERLAPS →
    has_number result o ≡ (not tripped && is_trail_green (overlap_in now rows.overlaps o).interval)

-- the standing calls, of phases in these intervals and parts: no button is pressed, and no order is given
pub record IsStanding (intervals : Intervals) (pedestrians : Pedestrians) (plan : Plan) (rows : Rows) (result : Standing) : Type 0 where
  pub observed : Observed
  pub outputs_are : TellsOutputs rows.detectors observed.outputs
  pub actuated_are : TellsActuations rows.detectors observed.actuated
  pub no_button : (d : ℕ) → has_number observed.buttons d ≡ false
  pub intervals_are : observed.intervals ≡ intervals
  pub pedestrians_are : observed.pedestrians ≡ pedestrians
  pub runs_is : observed.runs ≡ running plan (pattern_in rows.pattern)
  pub none_omitted : (p : ℕ) → has observed.omit p ≡ false
  pub none_ended : observed.service_ended ≡ false
  pub stands : TellsStanding observed plan rows.calls result

-- `view(tripped, clock, tick, plan)`: what a log sees of the state at tick number `tick`, where timers are read at
-- `clock`, whatever is beside the rows
abbrev pub TellsSeen : ℕ → ℕ → Plan → Bool → Rows → Seen → Type 0
TellsSeen clock tick plan tripped rows result = (b : Beside) → b.plan ≡ plan → is_some b.trip ≡ tripped → clock_at tick b.trip ≡ clock →
    AgreeInAll (view_of result) (view (state_of tick b rows))

-- `red_timings(tripped, clock, plan)`: the phases in red clearance whose time has not passed, read in the same way
abbrev pub TellsRedTimings : ℕ → Plan → Bool → Rows → PhaseSet → Type 0
TellsRedTimings clock plan tripped rows result = (now : ℕ) (b : Beside) → b.plan ≡ plan → is_some b.trip ≡ tripped → clock_at now b.trip ≡ clock →
    Agree (has result) (times_red (state_of now b rows))

-- `minimums(tripped, clock, plan)`: and the Green phases whose minimum green has not passed
abbrev pub TellsMinimums : ℕ → Plan → Bool → Rows → PhaseSet → Type 0
TellsMinimums clock plan tripped rows result = (now : ℕ) (b : Beside) → b.plan ≡ plan → is_some b.trip ≡ tripped → clock_at now b.trip ≡ clock →
    Agree (has result) (times_minimum (state_of now b rows))

-- `selected(plan)`: what a log sees of the selected pattern
abbrev pub TellsSelected : Plan → Rows → Selected → Type 0
TellsSelected plan rows result = (now : ℕ) (b : Beside) → b.plan ≡ plan →
    AgreeInSelected (selected_of result) (selected (state_of now b rows))

-- `keeps_cycle(now, plan)`: in the next tick the local counter goes on as it did, and comes to no place that has an
-- event
pub record KeepsCycle (now : ℕ) (plan : Plan) (row : List ℕ) : Type 0 where
  pub cycle : cycle_state plan (pattern_in row) (correction_in row) (now + 1) ≡ cycle_state plan (pattern_in row) (correction_in row) now
  pub zero : comes_to_zero plan (pattern_in row) (correction_in row) (now + 1) ≡ false
  pub yields : (p : ℕ) → 1 ≤ p → p ≤ 16 → yields plan (pattern_in row) (correction_in row) (now + 1) p ≡ false
