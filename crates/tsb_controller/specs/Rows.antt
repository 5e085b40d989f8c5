-- The rows of cells of the seven layers side by side, and the state that is read in them at a tick.
use Rattle.std.specs.Prelude.{ℕ, List, Option, None}
use Rattle.tsb_step.specs.tsb_types.declared.lamp.Lamp.{Lamp}
use Rattle.tsb_step.specs.tsb_plan.Plan.{Plan}
use Rattle.tsb_detect.specs.Cells as detect
use Rattle.tsb_detect.specs.Cells.{detector_in}
use Rattle.tsb_calls.specs.Cells as calls
use Rattle.tsb_calls.specs.Cells.{memories_in}
use Rattle.tsb_phase.specs.Cells as phases
use Rattle.tsb_phase.specs.Cells.{phase_in}
use Rattle.tsb_ring.specs.Cells as rings
use Rattle.tsb_ring.specs.Cells.{rings_in}
use Rattle.tsb_coord.specs.Cells as coord
use Rattle.tsb_coord.specs.Cells.{pattern_in, correction_in, start_in}
use Rattle.tsb_preempt.specs.Cells as preempts
use Rattle.tsb_preempt.specs.Cells.{preempts_in}
use Rattle.tsb_overlap.specs.Cells as overlaps
use Rattle.tsb_overlap.specs.Cells.{overlap_in, omitted_in}
use Rattle.tsb_transact.specs.Desk.{Desk}
use Rattle.tsb_step.specs.Cells.{clock_at}
use Rattle.tsb_step.specs.State.{State, Tripped}

-- the cells of each layer that has a part in a tick
pub record Rows : Type 0 where
  pub detectors : List ℕ
  pub calls : List ℕ
  pub phases : List ℕ
  pub rings : List ℕ
  pub pattern : List ℕ
  pub preempts : List ℕ
  pub overlaps : List ℕ

-- what a state has beside these rows, and `Controller` does not keep
pub record Beside : Type 0 where
  pub plan : Plan
  pub desk : Desk
  pub lamp : Option Lamp
  pub trip : Option Tripped

-- beside rows of a controller that has not tripped
abbrev pub untripped : Plan → Desk → Option Lamp → Beside
untripped plan desk lamp = record { plan = plan; desk = desk; lamp = lamp; trip = None }

-- the state at tick number `now`; timers are read at the tick of the trip, if there is one
abbrev pub state_of : ℕ → Beside → Rows → State
state_of now b r = record {
  now = now;
  plan = b.plan;
  desk = b.desk;
  pattern = pattern_in r.pattern;
  correction = correction_in r.pattern;
  start_moment = start_in r.pattern;
  detectors = detector_in (clock_at now b.trip) r.detectors;
  memories = memories_in r.calls;
  phases = phase_in (clock_at now b.trip) r.phases;
  rings = rings_in r.rings;
  preempts = preempts_in (clock_at now b.trip) r.preempts;
  overlaps = overlap_in (clock_at now b.trip) r.overlaps;
  omitted = omitted_in r.overlaps;
  lamp = b.lamp;
  trip = b.trip;
}

-- rows that the layers can hold at tick `now`
pub record AreBy (now : ℕ) (r : Rows) : Type 0 where
  pub detectors : detect.IsBy now r.detectors
  pub calls : calls.IsBy r.calls
  pub phases : phases.IsBy now r.phases
  pub rings : rings.IsBy r.rings
  pub pattern : coord.IsBy r.pattern
  pub preempts : preempts.IsBy now r.preempts
  pub overlaps : overlaps.IsBy now r.overlaps
