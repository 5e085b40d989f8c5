-- The whole controller: all of its state, field by field, each of the layer whose it is; and its state at power-up and
-- after a reset.
use Rattle.std.specs.Prelude.{ℕ, Bool, false, Option, None}
use Rattle.tsb_types.specs.declared.interval.Interval.{Interval}
use Rattle.tsb_types.specs.declared.interval.PedestrianInterval.{PedestrianInterval}
use Rattle.tsb_types.specs.declared.lamp.Lamp.{Lamp}
use Rattle.tsb_objects.specs.tsb_plan.Plan.{Plan}
use Rattle.tsb_detect.specs.Detector as detector
use Rattle.tsb_detect.specs.Detector.{Detector}
use Rattle.tsb_calls.specs.Memories as calls
use Rattle.tsb_calls.specs.Memories.{Memories}
use Rattle.tsb_phase.specs.Phase as phase
use Rattle.tsb_phase.specs.Phase.{Phase}
use Rattle.tsb_ring.specs.Rings as rings
use Rattle.tsb_coord.specs.Coordinated as coordination
use Rattle.tsb_coord.specs.declared.correction.Correction.{Correction}
use Rattle.tsb_coord.specs.Correction.{in_step}
use Rattle.tsb_preempt.specs.Preempts as preempts
use Rattle.tsb_preempt.specs.Preempts.{Preempts}
use Rattle.tsb_overlap.specs.Overlap as overlap
use Rattle.tsb_overlap.specs.Overlap.{Overlap}
use Rattle.tsb_heads.specs.declared.monitor.Trip.{Trip}
use Rattle.tsb_transact.specs.Desk.{Desk, closed}

-- why the monitor tripped the controller, and the tick number at which it did
pub record Tripped : Type 0 where
  pub cause : Trip
  pub tick : ℕ

-- all that inputs can change, and all from which displays and refusals are found
pub record State : Type 0 where
  -- the tick number: tenths of a second since power-up
  pub now : ℕ
  -- the plan in effect, and the desk at which stations change it
  pub plan : Plan
  pub desk : Desk
  -- the pattern that the operator selected, and how its local counter comes into step
  pub pattern : Option ℕ
  pub correction : Correction
  -- the moment of tick number 0, where a clock is set
  pub start_moment : Option ℕ
  -- of each vehicle detector, of each phase
  pub detectors : ℕ → Detector
  pub memories : Memories
  pub phases : ℕ → Phase
  pub rings : rings.State
  pub preempts : Preempts
  -- of each overlap that has intervals of its own, and the arrows that are omitted
  pub overlaps : ℕ → Overlap
  pub omitted : ℕ → Bool
  -- the lamp that a fault has lit, and the trip, if the monitor has tripped
  pub lamp : Option Lamp
  pub trip : Option Tripped

-- at power-up with a plan
abbrev pub start : Plan → State
start plan = record {
  now = 0;
  plan = plan;
  desk = closed;
  pattern = coordination.at_power_up;
  correction = in_step;
  start_moment = None;
  detectors = λ d. detector.at_power_up;
  memories = calls.at_power_up;
  phases = λ p. phase.at_power_up;
  rings = rings.power_up;
  preempts = preempts.at_power_up;
  overlaps = λ o. overlap.at_power_up;
  omitted = λ o. false;
  lamp = None;
  trip = None;
}

-- a controller that starts anew: as at power-up, except its plan, desk, switches, tick number and clock
abbrev pub restarted : State → State
restarted s = record (start s.plan) { now = s.now; desk = s.desk; start_moment = s.start_moment; preempts = preempts.after_reset s.preempts }

-- ## Words on the state

-- of a phase: Green, Yellow (yellow change), RedClear (red clearance) or Red
abbrev pub interval : State → ℕ → Interval
interval s p = (s.phases p).interval

-- of a phase: Walk, PedestrianClear (pedestrian clearance) or DontWalk
abbrev pub pedestrian_part : State → ℕ → PedestrianInterval
pedestrian_part s p = (s.phases p).pedestrian
