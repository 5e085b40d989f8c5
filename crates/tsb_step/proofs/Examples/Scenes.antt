-- Words and states of the examples of the whole step. They are on the built-in plan of eight phases: 1, 2, 5 and 6 are on
-- side 1, detector d calls phase d, phases 2 and 6 have minimum recall, a green lasts 50 ticks at least, and preempt 1
-- wants 3 and 8 for 100 ticks. Each example is one input.
use Rattle.std.specs.Prelude.{ℕ, ◌-◌, ◌^◌, if◌then◌else◌, List, [], ◌∷◌, map, Some, None}
use Rattle.tsb_cells.specs.declared.timer.Timer.TheVariants.{Off, On}
use Rattle.tsb_types.specs.declared.interval.Interval.{Interval}
use Rattle.tsb_types.specs.declared.interval.Interval.TheVariants.{Green, RedClear}
use Rattle.tsb_types.specs.declared.interval.PedestrianInterval.TheVariants.{Walk}
use Rattle.tsb_types.specs.declared.row.Row.{Row}
use Rattle.tsb_types.specs.declared.stage.Stage.TheVariants.{Dwell}
use Rattle.tsb_types.specs.Lists.{among, run_from}
use Rattle.tsb_types.specs.Sets.{all_off, set_of_detectors, set_of_list}
use Rattle.tsb_objects.specs.tsb_plan.declared.object.Object.TheVariants.{PhasePedestrianRecycle, CoordCorrectionMode, CoordCorrectionLimit}
use Rattle.tsb_objects.specs.tsb_plan.Plan.{with_value, with_values}
use Rattle.tsb_objects.specs.tsb_plan.Quad.{quad}
use Rattle.tsb_objects.specs.tsb_rules.PatternRules.{coordinated_count, side_sum, split_end, split_sum}
use Rattle.tsb_objects.specs.tsb_rules.Rules.{broken_by_extensions, broken_by_schedule, broken_by_overlaps, broken_by_parts, broken_by_phases, broken_by_rings, first_broken}
use Rattle.tsb_detect.specs.Detector as detector
use Rattle.tsb_calls.specs.Callable.{has_conflict, is_callable}
use Rattle.tsb_calls.specs.Memories as calls
use Rattle.tsb_calls.specs.Memories.{Memories, actuations, counted, has_button, has_output, pedestrian_memory, vehicle_memory}
use Rattle.tsb_coord.specs.Coordinated.{force_off}
use Rattle.tsb_heads.specs.Monitoring.{conflict, conflict_of, green_to_red, has_green_arrow}
use Rattle.tsb_heads.specs.Overlaps.{is_kept_green, is_on_yellow, lasts, some_lasts}
use Rattle.tsb_overlap.specs.Overlap as overlaps
use Rattle.tsb_overlap.specs.Overlap.{is_held, may_flash, run_on, settled}
use Rattle.tsb_phase.specs.DynamicMaximum.{maximum_in_use}
use Rattle.tsb_phase.specs.Green.{cars_waiting, gap, initial, reduction_timer}
use Rattle.tsb_phase.specs.Pedestrian.{pedestrian_now}
use Rattle.tsb_phase.specs.Phase as phase
use Rattle.tsb_phase.specs.Phase.{Phase}
use Rattle.tsb_phase.specs.Ready.{is_over, is_ready, red_revert_passed}
use Rattle.tsb_preempt.specs.Preempts as preempts
use Rattle.tsb_preempt.specs.Preempts.{beginning, dwell_ends, new_service, requesting}
use Rattle.tsb_preempt.specs.Service.{all_green}
use Rattle.tsb_ring.specs.Crossings.{begins, committed, entry, target_side}
use Rattle.tsb_ring.specs.GivenUp.{given_up}
use Rattle.tsb_ring.specs.Moves.{moves}
use Rattle.tsb_ring.specs.Next.{clears, completes, ends, new_commitment, new_crossing, new_last, new_side, next, starting}
use Rattle.tsb_ring.specs.Rings as rings
use Rattle.tsb_ring.specs.Rings.{serving}
use Rattle.tsb_ring.proofs.Examples.Scenes.{both}
use Rattle.tsb_ring.specs.Wants.{fits, pick, pick_of_ring_1, want, want_of}
use Rattle.tsb_step.specs.declared.inputs.Input.TheVariants.{Tick}
use Rattle.tsb_step.specs.Signs.{display, field, watched}
use Rattle.tsb_step.specs.State.{State, start, interval}
use Rattle.tsb_step.specs.Step.{step, verdict}
use Rattle.tsb_step.specs.Tick as tick

-- what a computed example opens
unfoldable pub opened : Unit {0}
unfolding run_from quad coordinated_count side_sum split_end split_sum broken_by_extensions broken_by_schedule broken_by_overlaps broken_by_parts broken_by_phases broken_by_rings first_broken has_conflict is_callable actuations counted has_button has_output pedestrian_memory vehicle_memory force_off conflict conflict_of green_to_red is_kept_green is_on_yellow lasts some_lasts has_green_arrow overlaps.next settled run_on may_flash is_held given_up maximum_in_use cars_waiting gap initial reduction_timer pedestrian_now is_over is_ready red_revert_passed beginning dwell_ends new_service requesting all_green begins committed entry target_side moves clears completes ends new_commitment new_crossing new_last new_side next starting serving fits pick pick_of_ring_1 want want_of display field watched step verdict tick.moves tick.new_detectors tick.new_service tick.phases_given tick.held tick.rings_given tick.gives_up tick.new_rings
opened = tt

-- ## Words

-- the state after a tick with these inputs on
abbrev pub after : State → Row → State
after s row = step s (Tick row)

-- one input is on: of a vehicle detector, of a pedestrian detector, of a preempt
abbrev pub vehicle : ℕ → Row
vehicle d = record all_off { vehicles = set_of_detectors (2 ^ (d - 1)) }

abbrev pub button : ℕ → Row
button d = record all_off { pedestrians = set_of_list (2 ^ (d - 1)) }

abbrev pub preempt : ℕ → Row
preempt n = record all_off { preempts = set_of_list (2 ^ (n - 1)) }

-- a green that has lasted n ticks, and no vehicle passed in them
abbrev pub green : ℕ → Phase
green n = record phase.at_power_up { interval = Green; timer = On n; passage = On n }

-- a red clearance that has lasted n ticks
abbrev pub clearing : ℕ → Phase
clearing n = record phase.at_power_up { interval = RedClear; timer = On n; red_revert = On n }

-- phases of a list are in x, all others in y
abbrev pub these : List ℕ → Phase → (ℕ → Phase) → ℕ → Phase
these ps x y p = if among p ps then x else y p

abbrev pub all_red : ℕ → Phase
all_red p = phase.at_power_up

-- vehicle memory of these phases
abbrev pub called : List ℕ → Memories
called ps = record calls.at_power_up { vehicle = λ p. among p ps }

-- the intervals of phases 1 to 8
abbrev pub intervals : State → List Interval
intervals s = map (interval s) (run_from 1 8)

-- ## States

-- at tick 60 all phases are Red, and the rings started 2 and 6 last
abbrev pub red : State
red = record (start quad) {
  now = 60;
  detectors = λ d. record detector.at_power_up { change = On 60 };
  rings = record rings.power_up { last = both (Some 2) (Some 6) };
}

-- 2 and 6 have been Green since tick 1; and the same when these greens are too short to end
abbrev pub resting : State
resting = record red { phases = these (2 ∷ 6 ∷ []) (green 59) all_red }

abbrev pub short : State
short = record red { phases = these (2 ∷ 6 ∷ []) (green 9) all_red }

-- 2 is Green alone, in a walk
abbrev pub walking : State
walking = record red { phases = these (2 ∷ []) (record (green 59) { pedestrian = Walk; pedestrian_timer = On 9 }) all_red }

-- a crossing from 2 and 6 to 3 and 8 is completed in the next tick
abbrev pub at_barrier : State
at_barrier = record red {
  memories = called (3 ∷ []);
  phases = these (2 ∷ 6 ∷ []) (clearing 9) all_red;
  rings = record { last = both (Some 2) (Some 6); commitment = both (Some 3) (Some 8); side = 1; crossing = Some 2 };
}

-- ring 1 has cleared 1 and starts 2 in the next tick, beside 6
abbrev pub entering : State
entering = record red {
  phases = these (1 ∷ []) (clearing 9) (these (6 ∷ []) (green 59) all_red);
  rings = record rings.power_up { last = both (Some 1) (Some 6); commitment = both (Some 2) None };
}

-- preempt 1 has been in Dwell for n ticks, with 3 and 8 Green
abbrev pub dwelling : ℕ → State
dwelling n = record red {
  phases = these (3 ∷ 8 ∷ []) (green 59) all_red;
  rings = record rings.power_up { last = both (Some 3) (Some 8); side = 2 };
  preempts = record preempts.at_power_up {
    service = Some (record { preempt = 1; stage = Dwell; timer = On n; stage_timer = Off });
  };
}

-- pattern 1 runs, in which 2 and 6 are coordinated; they are Green, and 3 is called
abbrev pub coordinated : ℕ → State
coordinated n = record resting { now = n; pattern = Some 1; memories = called (3 ∷ []) }

-- and 2 may walk again within its green, as long as 100 ticks are left to its instant, which is at 760
abbrev pub recycling : ℕ → State
recycling n = record (coordinated n) { plan = with_value quad PhasePedestrianRecycle 2 1 }

-- the local counter, 10 ticks short of a whole cycle ahead at tick n, takes two steps in each of the 10 ticks that
-- follow
abbrev pub hurrying : ℕ → State → State
hurrying n s = record s {
  plan = with_values s.plan ((CoordCorrectionMode, 1, 2) ∷ (CoordCorrectionLimit, 1, 50) ∷ []);
  correction = record { since = n; ahead = 790; midnight = 0 };
}
