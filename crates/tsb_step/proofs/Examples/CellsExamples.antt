-- The cells of a controller in which much is going on: how many there are, where those of each layer are, and that they
-- are read as what they say.
use Rattle.std.specs.Prelude.{true, ◌≡◌, ◌+◌, ◌==◌, if◌then◌else◌, [], ◌∷◌, length, slice_index, Some, None, refl}
use Rattle.tsb_cells.specs.declared.timer.Timer.TheVariants.{Off, On}
use Rattle.tsb_types.specs.declared.interval.Interval.TheVariants.{Yellow}
use Rattle.tsb_types.specs.declared.lamp.Lamp.TheVariants as lamps
use Rattle.tsb_types.specs.declared.lamp.SignalColor.TheVariants as signals
use Rattle.tsb_types.specs.declared.lamp.PedestrianColor.TheVariants as pedestrians
use Rattle.tsb_types.specs.declared.stage.Stage.TheVariants.{Exit}
use Rattle.tsb_types.specs.Lists.{run_from}
use Rattle.tsb_types.specs.Sets.{number_of_bits}
use Rattle.tsb_objects.specs.tsb_plan.declared.object.Object.TheVariants.{PhaseWalk, SequenceData}
use Rattle.tsb_objects.specs.tsb_plan.Objects.{objects, first_cell}
use Rattle.tsb_objects.specs.tsb_plan.Quad.{quad}
use Rattle.tsb_detect.specs.declared.alarm.Alarm.TheVariants.{Erratic}
use Rattle.tsb_detect.specs.Detector as detector
use Rattle.tsb_detect.specs.Cells as detectors
use Rattle.tsb_phase.specs.Phase as phase
use Rattle.tsb_phase.specs.Cells as phases
use Rattle.tsb_ring.specs.Rings.{Ring2}
use Rattle.tsb_ring.specs.Cells.{rings_in}
use Rattle.tsb_preempt.specs.Preempts as preempts
use Rattle.tsb_preempt.specs.Cells.{service_in, preempts_in}
use Rattle.tsb_overlap.specs.declared.parts.OverlapInterval.TheVariants as intervals
use Rattle.tsb_overlap.specs.Overlap as overlap
use Rattle.tsb_overlap.specs.Cells.{overlap_in}
use Rattle.tsb_heads.specs.declared.monitor.Trip.TheVariants.{Conflict, GreenToRed}
use Rattle.tsb_transact.specs.declared.desk_state.DeskState.TheVariants.{Transaction}
use Rattle.tsb_transact.specs.Cells.{desk_in}
use Rattle.tsb_step.specs.declared.first_cell.TheConstants.{DESK, DETECTORS, CALLS, PHASES, RINGS, COORD, PREEMPTS, OVERLAPS, MONITOR, ALL_CELLS}
use Rattle.tsb_step.specs.State.{State}
use Rattle.tsb_step.specs.Cells.{cells_of, state_in, clock}
use Rattle.tsb_step.specs.MonitorCells.{monitor_cells, lamp_in, trip_in}

unfoldable opened : Unit {0}
unfolding quad objects first_cell run_from number_of_bits cells_of state_in detectors.detector_in detectors.row_in phases.phase_in phases.row_in rings_in service_in preempts_in desk_in
opened = tt

-- the controller tripped at tick 40, and is now at 50
unfoldable busy : State
unfolding opened
busy = record {
  now = 50;
  plan = quad;
  desk = record {
    owner = Some 3;
    state = Transaction;
    rule = None;
    edits = record { id = record { object = PhaseWalk; index = 2 }; value = 7 } ∷ [];
  };
  pattern = Some 2;
  correction = record { since = 30; ahead = 7; midnight = 7164000 };
  start_moment = Some 7164000;
  detectors = λ d. if d == 16 then record detector.at_power_up { alarm = Some Erratic; rises = 9 } else detector.at_power_up;
  memories = record { vehicle = λ p. p == 3; pedestrian = λ p. p == 2; count = λ p. if p == 16 then 5 else 0 };
  phases = λ p. if p == 16 then record phase.at_power_up { interval = Yellow; timer = On 12 } else phase.at_power_up;
  rings = record { last = λ r. Some 2; commitment = λ r. Some 3; side = 1; crossing = Some 2 };
  preempts = record preempts.at_power_up {
    service = Some (record { preempt = 4; stage = Exit; timer = On 40; stage_timer = Off });
  };
  overlaps = λ o. if o == 16 then record { interval = intervals.Yellow; timer = On 9; phase = Some 4 } else overlap.at_power_up;
  omitted = λ o. o == 3;
  lamp = Some (lamps.Phase 5 signals.Yellow);
  trip = Some (record { cause = Conflict 2 5; tick = 40 });
}

-- ## Where they are

how_many : length (cells_of busy) ≡ ALL_CELLS
unfolding opened busy
how_many = refl

first_cells : DESK ∷ DETECTORS ∷ CALLS ∷ PHASES ∷ RINGS ∷ COORD ∷ PREEMPTS ∷ OVERLAPS ∷ MONITOR ∷ ALL_CELLS ∷ [] ≡
    2831 ∷ 2963 ∷ 3167 ∷ 3185 ∷ 3301 ∷ 3305 ∷ 3311 ∷ 3325 ∷ 3363 ∷ 3370 ∷ []
first_cells = refl

-- the plan: phaseEnabled of phase 8, and sequenceData at its index 20, which is phase 8
plan_cells_stand : slice_index (cells_of busy) 7 ∷ slice_index (cells_of busy) (first_cell SequenceData + 19) ∷ [] ≡ 1 ∷ 8 ∷ []
unfolding opened busy
plan_cells_stand = refl

-- the desk's owner, the last timer of the detectors, the last count, the cell of two lists, right of way and clearing
ends_stand : slice_index (cells_of busy) 2831 ∷ slice_index (cells_of busy) 3184 ∷ slice_index (cells_of busy) 3185 ∷ [] ≡ 3 ∷ 5 ∷ 2147516416 ∷ []
unfolding opened busy
ends_stand = refl

-- the rings' side, the pattern, the preempt in service
more_stand : slice_index (cells_of busy) 3303 ∷ slice_index (cells_of busy) 3305 ∷ slice_index (cells_of busy) 3321 ∷ [] ≡ 1 ∷ 2 ∷ 4 ∷ []
unfolding opened busy
more_stand = refl

-- since when the local counter comes into step, how far it was ahead then, and the midnight that it counts from
its_counter_stands : slice_index (cells_of busy) 3306 ∷ slice_index (cells_of busy) 3307 ∷ slice_index (cells_of busy) 3308 ∷ [] ≡ 30 ∷ 7 ∷ 7164000 ∷ []
unfolding opened busy
its_counter_stands = refl

-- tick number 0 was at 7:00 of 2000-01-01, which is day 8
its_clock_stands : slice_index (cells_of busy) 3309 ∷ slice_index (cells_of busy) 3310 ∷ [] ≡ 8 ∷ 252000 ∷ []
unfolding opened busy
its_clock_stands = refl

-- ## As they are read

abbrev again : State
again = state_in 50 (cells_of busy)

pattern_again : again.pattern ≡ Some 2
unfolding opened busy
pattern_again = refl

correction_again : again.correction ≡ busy.correction
unfolding opened busy
correction_again = refl

start_again : again.start_moment ≡ Some 7164000
unfolding opened busy
start_again = refl

edits_again : again.desk.edits ≡ busy.desk.edits
unfolding opened busy
edits_again = refl

-- timers have stopped since the trip
clock_again : clock again ≡ 40
unfolding opened busy
clock_again = refl

detector_again : (again.detectors 16).rises ≡ 9
unfolding opened busy
detector_again = refl

phase_again : (again.phases 16).timer ≡ On 12
unfolding opened busy
phase_again = refl

service_again : again.preempts.service ≡ busy.preempts.service
unfolding opened busy
service_again = refl

ring_again : again.rings.commitment Ring2 ≡ Some 3
unfolding opened busy
ring_again = refl

-- the list of the overlaps in yellow, that of omitted arrows, the tick at which the last began its yellow, and its phase
overlaps_stand : slice_index (cells_of busy) 3328 ∷ slice_index (cells_of busy) 3330 ∷ slice_index (cells_of busy) 3346 ∷ slice_index (cells_of busy) 3362 ∷ [] ≡
    32768 ∷ 4 ∷ 32 ∷ 4 ∷ []
unfolding opened busy
overlaps_stand = refl

overlap_again : (again.overlaps 16).timer ≡ On 9
unfolding opened busy overlap_in
overlap_again = refl

its_phase_again : (again.overlaps 16).phase ≡ Some 4
unfolding opened busy overlap_in
its_phase_again = refl

omitted_again : again.omitted 3 ≡ true
unfolding opened busy
omitted_again = refl

count_again : again.memories.count 16 ≡ 5
unfolding opened busy
count_again = refl

walk_again : again.plan.value SequenceData 20 ≡ 8
unfolding opened busy
walk_again = refl

lamp_again : again.lamp ≡ busy.lamp
unfolding opened busy
lamp_again = refl

trip_again : again.trip ≡ busy.trip
unfolding opened busy
trip_again = refl

-- ## The monitor's own

walk_lamp : lamp_in (monitor_cells (Some (lamps.Pedestrian 2 pedestrians.Walk)) None) ≡ Some (lamps.Pedestrian 2 pedestrians.Walk)
walk_lamp = refl

overlap_lamp : lamp_in (monitor_cells (Some (lamps.Overlap 4 signals.Green)) None) ≡ Some (lamps.Overlap 4 signals.Green)
overlap_lamp = refl

arrow_lamp : lamp_in (monitor_cells (Some (lamps.Arrow 4)) None) ≡ Some (lamps.Arrow 4)
arrow_lamp = refl

red_trip : trip_in (monitor_cells None (Some (record { cause = GreenToRed 6; tick = 0 }))) ≡ Some (record { cause = GreenToRed 6; tick = 0 })
red_trip = refl

dark : lamp_in (monitor_cells None None) ≡ None
dark = refl
