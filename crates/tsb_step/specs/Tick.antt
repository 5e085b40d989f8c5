-- What a tick finds and what it makes of the controller: the layers' definitions joined, in the order in which values
-- are found. That order is the profile's own. "Was" is before this tick: `s` is the state that was, and `row` the
-- inputs that are on in the tick. No value is found from one that comes after it, and no field of the new state from
-- another.
--
-- A layer is given of each phase what holds of phases 1 to 16 alone: false, or 0, of any other number, as in the sets
-- that the layers give one another.
use Rattle.std.specs.Prelude.{ℕ, ◌+◌, Bool, not, ◌&&◌, if◌then◌else◌, Option, Some, None, is_some, option_map}
use Rattle.tsb_cells.specs.declared.timer.Timer.{Timer}
use Rattle.tsb_cells.specs.declared.timer.Timer.TheVariants.{Off}
use Rattle.tsb_types.specs.declared.flow.Moves.{Moves}
use Rattle.tsb_types.specs.declared.row.Row.{Row}
use Rattle.tsb_types.specs.Clip.{clipped, within}
use Rattle.tsb_types.specs.Intervals.{is_green}
use Rattle.tsb_types.specs.Sets.{has_detector, has_number}
use Rattle.tsb_objects.specs.tsb_plan.Parts.{call_phase, is_anew}
use Rattle.tsb_objects.specs.tsb_plan.Running.{running}
use Rattle.tsb_detect.specs.Detector as detector
use Rattle.tsb_detect.specs.Detector.{Detector}
use Rattle.tsb_calls.specs.Memories as calls
use Rattle.tsb_calls.specs.Callable as called
use Rattle.tsb_calls.specs.Settled as settled
use Rattle.tsb_phase.specs.Phase as phase
use Rattle.tsb_phase.specs.Next as phase_next
use Rattle.tsb_phase.specs.Pedestrian as pedestrian
use Rattle.tsb_phase.specs.Ready as timing
use Rattle.tsb_ring.specs.Rings as rings
use Rattle.tsb_ring.specs.Rings.{number}
use Rattle.tsb_ring.specs.Moves as ring_moves
use Rattle.tsb_ring.specs.Next as rings_next
use Rattle.tsb_ring.specs.GivenUp.{given_up}
use Rattle.tsb_coord.specs.Coordinated as coordination
use Rattle.tsb_coord.specs.Correction as correction
use Rattle.tsb_preempt.specs.Preempts as preempts
use Rattle.tsb_preempt.specs.Service.{Service}
use Rattle.tsb_step.specs.State.{State, interval, pedestrian_part}
use Rattle.tsb_overlap.specs.Overlap as overlaps
use Rattle.tsb_overlap.specs.Overlap.{is_held}
use Rattle.tsb_step.specs.Signs.{is_lasting, shown}

-- ## Preempts: stage, target, what must end

-- the preempt inputs of the row, of preempts alone, and the intervals that were
abbrev pub preempts_given : State → Row → preempts.Given
preempts_given s row = record {
  row = λ n. preempts.is_preempt n && has_number row.preempts n;
  interval = interval s;
}

-- as the tick reads them: a timer that was On n is On (n + 1)
abbrev pub preempts_read : State → preempts.Preempts
preempts_read s = preempts.as_read s.preempts

-- the service of a preempt in this tick
unfoldable pub new_service : State → Row → Option Service
new_service s row = preempts.new_service s.plan (preempts_given s row) (preempts_read s)

-- the preempt in service in this tick
abbrev pub service : State → Row → Option ℕ
service s row = option_map (λ x. x.preempt) (new_service s row)

-- a preempt was in service and none is now, so that each enabled phase that was not Green is called
abbrev pub service_ended : State → Row → Bool
service_ended s row = preempts.service_ended s.plan (preempts_given s row) (preempts_read s)

-- the track, dwell or exit phases of the stage in service; none where no preempt is in service
abbrev pub target : State → Row → Option (ℕ → Bool)
target s row = preempts.target s.plan (preempts_given s row) (preempts_read s)

-- the phase is outside the target, while a preempt is in service
abbrev pub must_end : State → Row → ℕ → Bool
must_end s row = preempts.must_end s.plan (preempts_given s row) (preempts_read s)

-- ## Coordination: the pattern that runs, its local counter and its orders

-- the selected pattern, if it is used; none is free operation
abbrev pub runs : State → Option ℕ
runs s = running s.plan s.pattern

-- it is a coordinated phase of the pattern that runs: unless a preempt is in service, its force-off alone ends its
-- green
abbrev pub hold : State → ℕ → Bool
hold s = coordination.asks_hold s.plan s.pattern

-- the phase is forced off in this tick by the cycle: at its force-off instant, late, or as a coordinated phase in its
-- permissive time. By floating force-off phase timing forces it off
abbrev pub forced : State → ℕ → Bool
forced s = correction.forces s.plan s.pattern s.correction (s.now + 1)

-- the phase may walk again within its green in this tick: it is a coordinated phase with pedestrian recycle that is not
-- forced off, and a walk and the pedestrian clearance end by its instant; not while the local counter comes into step
abbrev pub recycle : State → ℕ → Bool
recycle s = correction.lets_walk_again s.plan s.pattern s.correction (s.now + 1)

-- the local counter is at the phase's force-off instant in this tick
abbrev pub at_force_off : State → ℕ → Bool
at_force_off s = correction.comes_to_force_off s.plan s.pattern s.correction (s.now + 1)

-- its split mode in the pattern that runs omits it
abbrev pub omitted : State → ℕ → Bool
omitted s = coordination.asks_omit s.plan s.pattern

-- ## Detectors: outputs and actuations

-- the green timer of a phase that was Green
abbrev pub green_timer : State → Option ℕ → Timer
green_timer s None = Off
green_timer s (Some p) = if is_green (interval s p) then (phase.as_read (s.phases p)).timer else Off

-- the detectors after the tick
unfoldable pub new_detectors : State → Row → ℕ → Detector
new_detectors s row =
    detector.all_after s.plan (s.now + 1) (has_detector row.vehicles) (λ d. green_timer s (call_phase s.plan d)) s.detectors

-- ## Calls: memories as set, counts, what is callable, conflict

-- what the calls are given: detectors as they are after the tick, phases as they were before it
abbrev pub calls_given : State → Row → calls.Given
calls_given s row = record {
  output = λ d. (new_detectors s row d).output;
  actuated = λ d. (new_detectors s row d).actuated;
  button = has_number row.pedestrians;
  interval = interval s;
  pedestrian_part = pedestrian_part s;
  runs = runs s;
  omitted = clipped (omitted s);
  service_ended = service_ended s row;
}

-- the memories as set in this tick, and the counts with its actuations
abbrev pub set : State → Row → calls.Memories
set s row = calls.as_set s.plan (calls_given s row) s.memories

-- it may be served next: it is enabled, not omitted, was not Green, and has a call, which may be a recall
abbrev pub callable : State → Row → ℕ → Bool
callable s row = called.is_callable s.plan (calls_given s row) (set s row)

-- some other callable phase is not concurrent with it: a serviceable conflicting call
abbrev pub conflict : State → Row → ℕ → Bool
conflict s row = called.has_conflict s.plan (calls_given s row) (set s row)

-- an enabled phase with a walk has a pedestrian call, by its memory as set or by pedestrian recall
abbrev pub pedestrian_call : State → Row → ℕ → Bool
pedestrian_call s row = settled.pedestrian_call s.plan (calls_given s row) s.memories

-- ## Phase timing: what is ready, over, reverted and gapped

-- what phase timing is given: of each phase its outputs, calls, conflict, count of vehicles and orders; which pattern
-- runs, and which preempt is in service
unfoldable pub phases_given : State → Row → phase.Given
phases_given s row = record {
  output = clipped (calls.has_output s.plan (calls_given s row));
  conflict = clipped (conflict s row);
  callable = clipped (callable s row);
  pedestrian_call = clipped (pedestrian_call s row);
  count = within 0 (set s row).count;
  runs = runs s;
  service = service s row;
  hold = clipped (hold s);
  must_end = clipped (must_end s row);
  forced = clipped (forced s);
  recycle = clipped (recycle s);
}

-- as the tick reads it: a timer that was On n is On (n + 1)
abbrev pub phase_read : State → ℕ → phase.Phase
phase_read s p = phase.as_read (s.phases p)

-- it was Green and its green may end: by gap, max-out, force-off or a preempt, its pedestrian part being DontWalk
abbrev pub ready : State → Row → ℕ → Bool
ready s row p = timing.is_ready s.plan (phases_given s row) p (phase_read s p)

-- its clearance is done: red clearance has lasted its time, or yellow change where there is no red clearance
abbrev pub over : State → ℕ → Bool
over s p = timing.is_over s.plan p (phase_read s p)

-- an overlap that trails holds it in clearance in this tick, whatever its own clearance
unfoldable pub held : State → Row → ℕ → Bool
held s row = is_held s.plan (is_some (service s row)) s.overlaps

-- its own clearance is done, and no overlap holds it: so the rings take it
abbrev pub lets_go : State → Row → ℕ → Bool
lets_go s row p = over s p && not (held s row p)

-- its red revert has passed since its yellow ended, or its red revert timer is Off
abbrev pub reverted : State → ℕ → Bool
reverted s p = timing.red_revert_passed s.plan p (phase_read s p)

-- it was Green and has gapped out
abbrev pub gapped : State → Row → ℕ → Bool
gapped s row p = timing.is_gapped_now s.plan (phases_given s row) p (phase_read s p)

-- a walk begins within its green in this tick, by pedestrian recycle
abbrev pub walks_again : State → Row → ℕ → Bool
walks_again s row p = pedestrian.walks_again (phases_given s row) p (phase_read s p)

-- it was Yellow, and its yellow change time has passed
abbrev pub yellow_done : State → ℕ → Bool
yellow_done s p = timing.yellow_is_done s.plan p (phase_read s p)

-- ## Rings: wants, crossing, commitments, what is over and what starts

-- what the rings decide from: the intervals that were, the sequence in effect, and what the other layers have found
unfoldable pub rings_given : State → Row → rings.Given
rings_given s row = record {
  interval = interval s;
  sequence = λ r. coordination.serving_order s.plan s.pattern (number r);
  callable = clipped (callable s row);
  omitted = clipped (omitted s);
  ready = clipped (ready s row);
  over = clipped (lets_go s row);
  reverted = clipped (reverted s);
  target = target s row;
}

-- what each ring ends, clears, starts and commits to, and whether a crossing of the barrier begins or is completed
unfoldable pub moves : State → Row → Moves
moves s row = ring_moves.moves s.plan s.rings (rings_given s row)

-- the same of each phase, as phase timing is given it
abbrev pub moved : State → Row → phase.Moved
moved s row = record {
  ends = ring_moves.is_ended (moves s row);
  clears = ring_moves.is_cleared (moves s row);
  starts = ring_moves.is_started (moves s row);
}

-- the same as the calls are given it, with who has gapped out, whose walk begins within the green, and the preempt in
-- service
abbrev pub done : State → Row → settled.Done
done s row = record {
  starts = ring_moves.is_started (moves s row);
  ends = ring_moves.is_ended (moves s row);
  gapped = clipped (gapped s row);
  walks = clipped (walks_again s row);
  service = service s row;
}

-- ## The new state, of a controller that has not tripped and before the monitor judges it

-- field by field, where rings give nothing up, and before overlaps follow; plan, desk, pattern, clock, omitted arrows,
-- lamp and trip are as they were
abbrev pub after_moves : State → Row → State
after_moves s row = record {
  now = s.now + 1;
  plan = s.plan;
  desk = s.desk;
  pattern = s.pattern;
  correction = s.correction;
  start_moment = s.start_moment;
  detectors = new_detectors s row;
  memories = settled.next s.plan (calls_given s row) (done s row) s.memories;
  phases = λ p. phase_next.next s.plan (phases_given s row) (moved s row) p (s.phases p);
  rings = rings_next.next s.plan s.rings (rings_given s row);
  preempts = preempts.next s.plan (preempts_given s row) s.preempts;
  overlaps = s.overlaps;
  omitted = s.omitted;
  lamp = s.lamp;
  trip = s.trip;
}

-- commitments are given up in this tick: the preempt in service chooses anew, and no overlap lasts through a clearance
-- by a commitment. An overlap has no yellow of its own with which it could end there
unfoldable pub gives_up : State → Row → Bool
gives_up s row = is_anew s.plan (service s row) && not (is_lasting (after_moves s row))

-- the rings after the tick: without what they are committed to outside the target, where that is given up
unfoldable pub new_rings : State → Row → rings.State
new_rings s row = if gives_up s row then given_up s.plan (target s row) (after_moves s row).rings else (after_moves s row).rings

-- the state in which the rings have given up what they give up
abbrev pub after_rings : State → Row → State
after_rings s row = record (after_moves s row) { rings = new_rings s row }

-- what overlaps see of it; of their own lights they see nothing
abbrev pub overlaps_given : State → Row → overlaps.Given
overlaps_given s row = record {
  was_green = λ p. is_green (interval s p);
  shown = shown (after_rings s row);
  timer = λ p. ((after_rings s row).phases p).timer;
  preempted = is_some (service s row);
  omitted = s.omitted;
}

-- the new state
abbrev pub next : State → Row → State
next s row = record (after_rings s row) { overlaps = overlaps.next s.plan (overlaps_given s row) s.overlaps }
