-- The events of an input, by the Indiana Traffic Signal Hi Resolution Data Logger Enumerations, found from the state
-- before it, from what the log has noted before, and from the input itself. The code of an event says what happened,
-- its parameter to which phase, overlap, detector or preempt.
--
-- Where the enumerations are silent the choice is the profile's own: a controller in flash serves no phase and shows no
-- walk, so that a trip ends all of them; a vehicle call is that of a phase that is not Green. A stage of a preempt has
-- its event once all of its phases are Green, which stay Green as long as the stage does. The operator's switch of a
-- preempt counts as its input.
--
-- A log has a form: with `recalls` the calls of phases on recall come and go in it too, and with `outputs` vehicle
-- detectors go on and off as their outputs do, after delay and extension.
use Rattle.tsb_types.specs.declared.limits.TheConstants.{OVERLAPS}
use Rattle.std.specs.Prelude.{ℕ, ◌+◌, ◌-◌, ◌==◌, Bool, true, false, not, ◌&&◌, ◌||◌, if◌then◌else◌, List, [], ◌∷◌, ◌++◌, flat_map, nat_eq, nat_le, Option, Some, None, is_some, is_none}
use Rattle.std.specs.List.{list_any}
use Rattle.std.specs.Option.{option_eq}
use Rattle.tsb_cells.specs.Timer.{is_below, is_on}
use Rattle.tsb_types.specs.Events.{event, told, told_detectors, begins, ends, either}
use Rattle.tsb_types.specs.Intervals.{in_service, is_green, is_yellow, is_red_clear, is_walk, is_clearance}
use Rattle.tsb_types.specs.Lists.{or_number, run_from}
use Rattle.tsb_types.specs.Sets.{has_detector, has_number}
use Rattle.tsb_types.specs.declared.event.Event.{Event}
use Rattle.tsb_types.specs.declared.event.TheConstants.{PHASE_ON, GREEN_BEGINS, CONFLICT_BEGINS, MINIMUM_COMPLETE, GAP_OUT, MAX_OUT, FORCE_OFF, GREEN_ENDS, YELLOW_BEGINS, YELLOW_ENDS, RED_CLEARANCE_BEGINS, RED_CLEARANCE_ENDS, PHASE_OFF, WALK_BEGINS, CLEARANCE_BEGINS, DONT_WALK_BEGINS, BARRIER_CROSSED, CALL_COMES, CALL_GOES, PEDESTRIAN_CALL_COMES, ARROW_BEGINS, ARROW_ENDS, OVERLAP_GREEN_BEGINS, OVERLAP_TRAIL_BEGINS, OVERLAP_YELLOW_BEGINS, OVERLAP_RED_BEGINS, OVERLAP_OFF, VEHICLE_OFF, VEHICLE_ON, ALARM_GOES, ALARM_COMES, PEDESTRIAN_OFF, PEDESTRIAN_ON, PREEMPT_ON, PREEMPT_OFF, PREEMPT_ENTERS, TRACK_BEGINS, DWELL_BEGINS, PRESENCE_EXCEEDED, EXIT_BEGINS, PATTERN_CHANGES, CYCLE_CHANGES, OFFSET_CHANGES, SPLIT_CHANGES, FLASH_CHANGES, FREE, FLASH, NO_FLASH, CYCLE_STATE_CHANGES, CYCLE_ZERO, YIELD_POINT}
use Rattle.tsb_types.specs.declared.interval.Interval.{Interval}
use Rattle.tsb_types.specs.declared.interval.Interval.TheVariants.{Red}
use Rattle.tsb_types.specs.declared.interval.PedestrianInterval.{PedestrianInterval}
use Rattle.tsb_types.specs.declared.interval.PedestrianInterval.TheVariants.{DontWalk}
use Rattle.tsb_types.specs.declared.lamp.Aspect.{Aspect}
use Rattle.tsb_types.specs.declared.row.Row.{Row}
use Rattle.tsb_types.specs.declared.stage.Stage.{Stage}
use Rattle.tsb_types.specs.declared.stage.Stage.TheVariants.{Track, Dwell, Exit}
use Rattle.tsb_objects.specs.tsb_plan.declared.object.Object.TheVariants.{PatternCycleTime, PatternOffsetTime, SplitTime}
use Rattle.tsb_objects.specs.tsb_plan.Parts.{is_arrow, is_included, is_modifier, split_index}
use Rattle.tsb_objects.specs.tsb_plan.Plan.{Plan, minimum_green, phases, red_clear}
use Rattle.tsb_objects.specs.tsb_plan.Running.{is_on_pedestrian_recall, split_in_effect}
use Rattle.tsb_coord.specs.declared.cycle.CycleState.{CycleState}
use Rattle.tsb_coord.specs.Cycle as coordination
use Rattle.tsb_coord.specs.Cycle.{number_of}
use Rattle.tsb_calls.specs.Memories as calls
use Rattle.tsb_calls.specs.Callable.{is_recalled}
use Rattle.tsb_calls.specs.Standing as standing
use Rattle.tsb_phase.specs.declared.cause.Cause.{Cause}
use Rattle.tsb_phase.specs.declared.cause.Cause.TheVariants.{Gap, Maximum, ForceOff}
use Rattle.tsb_phase.specs.Causes as causes
use Rattle.tsb_phase.specs.Pedestrian.{ended_by}
use Rattle.tsb_preempt.specs.Preempts as preempts
use Rattle.tsb_preempt.specs.Preempts.{is_dwell, is_exit}
use Rattle.tsb_preempt.specs.Service.{all_green, stage_phases}
use Rattle.tsb_overlap.specs.Overlap.{is_trail_green}
use Rattle.tsb_heads.specs.Monitoring as heads
use Rattle.tsb_heads.specs.Colours as colours
use Rattle.tsb_step.specs.declared.inputs.Input.{Input}
use Rattle.tsb_step.specs.declared.log_form.LogForm.{LogForm}
use Rattle.tsb_step.specs.declared.log_form.Noted.{Noted}
use Rattle.tsb_step.specs.declared.inputs.Input.TheVariants.{Tick}
use Rattle.tsb_step.specs.Quiet.{waited}
use Rattle.tsb_step.specs.State.{State, interval, pedestrian_part}
use Rattle.tsb_step.specs.Signs.{display, stage}
use Rattle.tsb_step.specs.Step.{step}
use Rattle.tsb_step.specs.Tick.{runs, phases_given, phase_read, preempts_given, preempts_read}

-- ## What a log has noted

-- the usual form: a log has neither calls of recalls nor outputs
abbrev pub usual : LogForm
usual = record { recalls = false; outputs = false }

-- in this form, where these inputs were on in the newest tick
abbrev pub usual_after : Row → Noted
usual_after row = record { form = usual; row = row }

-- ## What a log sees of a state

-- of phases, overlaps, vehicle detectors and preempts by their numbers
pub record View : Type 0 where
  -- phases: Green, in yellow change, in red clearance, in red clearance that times; Green with a maximum that times; in
  -- walk, in clearance
  pub greens : ℕ → Bool
  pub yellows : ℕ → Bool
  pub red_clearances : ℕ → Bool
  pub red_timings : ℕ → Bool
  pub conflicts : ℕ → Bool
  pub walks : ℕ → Bool
  pub clearances : ℕ → Bool
  -- phases with a vehicle call that are not Green, with a pedestrian call that are not in Walk
  pub vehicle_calls : ℕ → Bool
  pub pedestrian_calls : ℕ → Bool
  -- phases on minimum or maximum recall, on pedestrian recall
  pub recalls : ℕ → Bool
  pub pedestrian_recalls : ℕ → Bool
  -- overlaps: green, green after their phases, yellow, flashing yellow; none of these, with no phase in service that they
  -- include, nor the turn of an arrow
  pub overlap_greens : ℕ → Bool
  pub overlap_trails : ℕ → Bool
  pub overlap_yellows : ℕ → Bool
  pub overlap_arrows : ℕ → Bool
  pub overlaps_off : ℕ → Bool
  -- vehicle detectors whose output is on, with an alarm
  pub outputs : ℕ → Bool
  pub alarms : ℕ → Bool
  -- preempts whose switch is on
  pub switches : ℕ → Bool
  -- preempts in service; in their track stage, in their dwell, in their exit; whether there is one in service, and
  -- whether each phase of its stage is Green
  pub preempts : ℕ → Bool
  pub tracks : ℕ → Bool
  pub dwells : ℕ → Bool
  pub exits : ℕ → Bool
  pub is_preempted : Bool
  pub stage_is_green : Bool
  -- how the local counter of the pattern that runs goes
  pub cycle : CycleState
  -- a crossing is under way; the side that is served
  pub crosses : Bool
  pub side : ℕ
  -- the monitor has tripped the controller
  pub flashes : Bool

-- the selected pattern; of the one that runs, cycle, offset and the split of each phase, in seconds, 0 in free operation
pub record Selected : Type 0 where
  pub pattern : Option ℕ
  pub cycle : ℕ
  pub offset : ℕ
  pub split : ℕ → ℕ

-- the interval of a phase; in flash no phase is in service
abbrev pub shown_interval : State → ℕ → Interval
shown_interval s p = if is_some s.trip then Red else interval s p

-- its pedestrian part; in flash none walks
abbrev pub shown_part : State → ℕ → PedestrianInterval
shown_part s p = if is_some s.trip then DontWalk else pedestrian_part s p

-- it is in red clearance, whose time has not passed; a phase that waits for the other ring stays in it beyond that
abbrev pub times_red : State → ℕ → Bool
times_red s p = is_red_clear (shown_interval s p) && is_below (s.phases p).timer (red_clear s.plan p)

-- what calls are found from, in a state
abbrev pub calls_now : State → calls.Given
calls_now s = record {
  output = λ d. (s.detectors d).output;
  actuated = λ d. (s.detectors d).actuated;
  button = λ d. false;
  interval = interval s;
  pedestrian_part = pedestrian_part s;
  runs = runs s;
  omitted = λ p. false;
  service_ended = false;
}

-- there are overlaps of these numbers
abbrev pub is_overlap : ℕ → Bool
is_overlap o = nat_le 1 o && nat_le o OVERLAPS

-- phase p is one by which overlap o is lit: an included one, or the turn of an arrow
abbrev pub is_by : Plan → ℕ → ℕ → Bool
is_by plan o p = is_included plan o p || (is_arrow plan o && is_modifier plan o p)

-- some such phase is in service
abbrev pub includes_service : State → ℕ → Bool
includes_service s o = list_any (λ p. is_by s.plan o p && in_service (shown_interval s p)) (phases s.plan)

-- its head is not lit, and no such phase is in service
abbrev pub is_off : Aspect → Bool → Bool
is_off head serves =
    not (heads.is_green head || (colours.is_yellow head || colours.is_flashing_yellow head)) && not serves

-- it is green after its phases; in flash none is
abbrev pub trails_now : State → ℕ → Bool
trails_now s o = is_none s.trip && is_trail_green (s.overlaps o).interval

-- a value of the pattern that runs, or of its split table; 0 where there is none
abbrev pub or_zero : Option ℕ → (ℕ → ℕ) → ℕ
or_zero None value = 0
or_zero (Some n) value = value n

-- a track stage, beside the dwell's and the exit's
abbrev pub is_track : Stage → Bool
is_track Track = true
is_track Dwell = false
is_track Exit = false

-- preempt n is in service, in a stage that passes a test
abbrev pub serves : (Stage → Bool) → Option (ℕ × Stage) → ℕ → Bool
serves test None n = false
serves test (Some (m, k)) n = m == n && test k

-- each phase of the stage in service is Green, by the interval of each phase; never where no preempt is in service
abbrev pub stage_is_green : Plan → (ℕ → Interval) → Option (ℕ × Stage) → Bool
stage_is_green plan interval None = false
stage_is_green plan interval (Some (n, k)) = all_green plan interval (stage_phases plan n k)

-- what a log sees
unfoldable pub view : State → View
view s = record {
  greens = λ p. is_green (shown_interval s p);
  yellows = λ p. is_yellow (shown_interval s p);
  red_clearances = λ p. is_red_clear (shown_interval s p);
  red_timings = times_red s;
  conflicts = λ p. is_green (shown_interval s p) && is_on (s.phases p).conflict;
  walks = λ p. is_walk (shown_part s p);
  clearances = λ p. is_clearance (shown_part s p);
  vehicle_calls = standing.vehicle_call s.plan (calls_now s) s.memories;
  pedestrian_calls = standing.pedestrian_call s.plan (calls_now s) s.memories;
  recalls = is_recalled s.plan (calls_now s);
  pedestrian_recalls = is_on_pedestrian_recall s.plan (runs s);
  overlap_greens = λ o. is_overlap o && heads.is_green ((display s).overlap o);
  overlap_trails = λ o. is_overlap o && trails_now s o;
  overlap_yellows = λ o. is_overlap o && colours.is_yellow ((display s).overlap o);
  overlap_arrows = λ o. is_overlap o && colours.is_flashing_yellow ((display s).overlap o);
  overlaps_off = λ o. is_overlap o && is_off ((display s).overlap o) (includes_service s o);
  outputs = λ d. (s.detectors d).output;
  alarms = λ d. is_some (s.detectors d).alarm;
  switches = s.preempts.switch;
  preempts = serves (λ k. true) (stage s);
  tracks = serves is_track (stage s);
  dwells = serves is_dwell (stage s);
  exits = serves is_exit (stage s);
  is_preempted = is_some (stage s);
  stage_is_green = stage_is_green s.plan (shown_interval s) (stage s);
  cycle = coordination.cycle_state s.plan s.pattern s.correction s.now;
  crosses = is_some s.rings.crossing;
  side = s.rings.side;
  flashes = is_some s.trip;
}

-- and of the selected pattern
unfoldable pub selected : State → Selected
selected s = record {
  pattern = s.pattern;
  cycle = or_zero (runs s) (λ n. s.plan.value PatternCycleTime n);
  offset = or_zero (runs s) (λ n. s.plan.value PatternOffsetTime n);
  split = λ p. or_zero (split_in_effect s.plan (runs s)) (λ t. s.plan.value SplitTime (split_index s.plan t p));
}

-- ## Events of ticks alone

-- the greens whose minimum green a tick completed; those that it ended by gap, by maximum, by force-off; what the log has
-- noted before; the inputs that are on in this tick; whether the local counter comes to 0 in it, and the coordinated
-- phases to whose force-off instant it comes; and whether the preempt in service has been served
pub record Found : Type 0 where
  pub minimum : ℕ → Bool
  pub gap : ℕ → Bool
  pub maximum : ℕ → Bool
  pub force_off : ℕ → Bool
  pub noted : Noted
  pub row : Row
  pub zero : Bool
  pub yields : ℕ → Bool
  pub served : Bool

-- it is Green, and its minimum green has not passed
abbrev pub times_minimum : State → ℕ → Bool
times_minimum s p = is_green (shown_interval s p) && is_below (s.phases p).timer (minimum_green s.plan p)

-- the next tick completes it: it has passed once each timer has run on. A minimum green of 0 has passed from the start
abbrev pub completes_minimum : State → ℕ → Bool
completes_minimum s p = times_minimum s p && not (times_minimum (waited s) p)

-- and the next tick ends the time of a red clearance
abbrev pub completes_red : State → ℕ → Bool
completes_red s p = times_red s p && not (times_red (waited s) p)

-- a tick with these inputs ended its green, and no preempt asked for it
abbrev pub ends_freely : State → Row → State → ℕ → Bool
ends_freely s row after p =
    is_green (interval s p) && (is_yellow (interval after p) && is_none (ended_by (phases_given s row) p))

-- what ended it
abbrev pub cause_of : State → Row → State → ℕ → Option Cause
cause_of s row after p =
    if ends_freely s row after p then causes.cause s.plan (phases_given s row) p (phase_read s p) else None

-- there is a cause, and it is this
abbrev pub is_cause : Cause → Option Cause → Bool
is_cause c None = false
is_cause Gap (Some Gap) = true
is_cause Maximum (Some Maximum) = true
is_cause ForceOff (Some ForceOff) = true
is_cause c (Some d) = false

-- what a tick finds that leads from a state to this one
abbrev pub found : Noted → State → Row → State → Found
found noted s row after = record {
  minimum = completes_minimum s;
  gap = λ p. is_cause Gap (cause_of s row after p);
  maximum = λ p. is_cause Maximum (cause_of s row after p);
  force_off = λ p. is_cause ForceOff (cause_of s row after p);
  noted = noted;
  row = row;
  zero = coordination.comes_to_zero s.plan s.pattern s.correction (s.now + 1);
  yields = coordination.yields s.plan s.pattern s.correction (s.now + 1);
  served = preempts.has_been_served s.plan (preempts_given s row) (preempts_read s);
}

-- ## Events

-- `was` is what a log saw before an input, and `now` what it sees after it

-- green begins, which has two codes; a conflict begins in a green
abbrev pub green_events : ℕ → View → View → List Event
green_events tick was now =
    told tick PHASE_ON (begins was.greens now.greens) ++ told tick GREEN_BEGINS (begins was.greens now.greens)
    ++ told tick CONFLICT_BEGINS (begins was.conflicts now.conflicts)

-- greens complete their minimum; how greens ended: by gap, by maximum, by force-off
abbrev pub ending_events : ℕ → Found → List Event
ending_events tick f =
    told tick MINIMUM_COMPLETE f.minimum ++ told tick GAP_OUT f.gap ++ told tick MAX_OUT f.maximum ++ told tick FORCE_OFF f.force_off

-- in service: green, in yellow change or in red clearance
abbrev pub serving : View → ℕ → Bool
serving v = either (either v.greens v.yellows) v.red_clearances

-- red clearance does not time now, and it did, or began by this input: with a time of 0 it ends as it begins
abbrev pub ends_red_timing : View → View → ℕ → Bool
ends_red_timing was now = ends (either was.red_timings (begins was.red_clearances now.red_clearances)) now.red_timings

-- green ends, yellow and red clearance begin and end, the phase is no longer in service
abbrev pub clearing_events : ℕ → View → View → List Event
clearing_events tick was now =
    told tick GREEN_ENDS (ends was.greens now.greens)
    ++ told tick YELLOW_BEGINS (begins was.yellows now.yellows) ++ told tick YELLOW_ENDS (ends was.yellows now.yellows)
    ++ told tick RED_CLEARANCE_BEGINS (begins was.red_clearances now.red_clearances)
    ++ told tick RED_CLEARANCE_ENDS (ends_red_timing was now)
    ++ told tick PHASE_OFF (ends (serving was) (serving now))

-- walk begins, clearance begins, neither is any more
abbrev pub pedestrian_events : ℕ → View → View → List Event
pedestrian_events tick was now =
    told tick WALK_BEGINS (begins was.walks now.walks)
    ++ told tick CLEARANCE_BEGINS (begins was.clearances now.clearances)
    ++ told tick DONT_WALK_BEGINS (ends (either was.walks was.clearances) (either now.walks now.clearances))

-- a crossing of the barrier is completed; which side is served from now on
abbrev pub crossing_events : ℕ → View → View → List Event
crossing_events tick was now =
    if was.crosses && not now.crosses then event tick BARRIER_CROSSED now.side ∷ [] else []

-- the calls that a log has in this form: those of phases on recall only where it has recalls
abbrev pub but_recalls : LogForm → (ℕ → Bool) → (ℕ → Bool) → ℕ → Bool
but_recalls form calls recalls p = if form.recalls then calls p else calls p && not (recalls p)

-- of vehicles
abbrev pub vehicle_calls_in : LogForm → View → ℕ → Bool
vehicle_calls_in form v = but_recalls form v.vehicle_calls v.recalls

-- of pedestrians
abbrev pub pedestrian_calls_in : LogForm → View → ℕ → Bool
pedestrian_calls_in form v = but_recalls form v.pedestrian_calls v.pedestrian_recalls

-- a vehicle call comes, or goes; a pedestrian call comes
abbrev pub call_events : ℕ → LogForm → View → View → List Event
call_events tick form was now =
    told tick CALL_COMES (begins (vehicle_calls_in form was) (vehicle_calls_in form now))
    ++ told tick CALL_GOES (ends (vehicle_calls_in form was) (vehicle_calls_in form now))
    ++ told tick PEDESTRIAN_CALL_COMES (begins (pedestrian_calls_in form was) (pedestrian_calls_in form now))

-- an arrow begins to flash, and ends
abbrev pub arrow_events : ℕ → View → View → List Event
arrow_events tick was now =
    told tick ARROW_BEGINS (begins was.overlap_arrows now.overlap_arrows)
    ++ told tick ARROW_ENDS (ends was.overlap_arrows now.overlap_arrows)

-- the overlaps that are green, yellow or flash yellow
abbrev pub lit_overlaps : View → ℕ → Bool
lit_overlaps v = either (either v.overlap_greens v.overlap_yellows) v.overlap_arrows

-- green begins, trailing green begins, yellow begins, it is lit no more, no phase by which it is lit is in service either
abbrev pub overlap_events : ℕ → View → View → List Event
overlap_events tick was now =
    told tick OVERLAP_GREEN_BEGINS (begins was.overlap_greens now.overlap_greens)
    ++ told tick OVERLAP_TRAIL_BEGINS (begins was.overlap_trails now.overlap_trails)
    ++ told tick OVERLAP_YELLOW_BEGINS (begins was.overlap_yellows now.overlap_yellows)
    ++ told tick OVERLAP_RED_BEGINS (ends (lit_overlaps was) (lit_overlaps now))
    ++ told tick OVERLAP_OFF (begins was.overlaps_off now.overlaps_off)

-- the vehicle detectors that are on in a log of this form: by their outputs, or by the inputs of a row
abbrev pub vehicles_in : LogForm → Row → View → ℕ → Bool
vehicles_in form row v d = if form.outputs then v.outputs d else has_detector row.vehicles d

-- vehicle detectors go off, and on; the row is the newest after the input
abbrev pub vehicle_events : ℕ → Noted → Row → View → View → List Event
vehicle_events tick noted row was now =
    told_detectors tick VEHICLE_OFF (ends (vehicles_in noted.form noted.row was) (vehicles_in noted.form row now))
    ++ told_detectors tick VEHICLE_ON (begins (vehicles_in noted.form noted.row was) (vehicles_in noted.form row now))

-- an alarm goes, or comes
abbrev pub alarm_events : ℕ → View → View → List Event
alarm_events tick was now =
    told_detectors tick ALARM_GOES (ends was.alarms now.alarms) ++ told_detectors tick ALARM_COMES (begins was.alarms now.alarms)

-- pedestrian inputs of the row go off, and on
abbrev pub button_events : ℕ → Found → List Event
button_events tick f =
    told tick PEDESTRIAN_OFF (ends (has_number f.noted.row.pedestrians) (has_number f.row.pedestrians))
    ++ told tick PEDESTRIAN_ON (begins (has_number f.noted.row.pedestrians) (has_number f.row.pedestrians))

-- the preempts that are asked for: by the inputs of a row, or by a switch
abbrev pub requests : Row → View → ℕ → Bool
requests row v n = has_number row.preempts n || v.switches n

-- requests come, and go; the row is the newest after the input
abbrev pub request_events : ℕ → Row → Row → View → View → List Event
request_events tick last row was now =
    told tick PREEMPT_ON (begins (requests last was) (requests row now))
    ++ told tick PREEMPT_OFF (ends (requests last was) (requests row now))

-- preempts in a stage, once each phase of the stage is Green
abbrev pub once_green : View → (ℕ → Bool) → ℕ → Bool
once_green v stage n = v.stage_is_green && stage n

-- a preempt enters service, its track greens are all there, its dwell greens
abbrev pub preempt_events : ℕ → View → View → List Event
preempt_events tick was now =
    told tick PREEMPT_ENTERS (begins was.preempts now.preempts)
    ++ told tick TRACK_BEGINS (begins (once_green was was.tracks) (once_green now now.tracks))
    ++ told tick DWELL_BEGINS (begins (once_green was was.dwells) (once_green now now.dwells))

-- its dwell is over: it is in its exit, or no preempt is in service
abbrev pub leaves_dwell : View → View → ℕ → Bool
leaves_dwell was now n = was.dwells n && (now.exits n || not now.is_preempted)

-- a dwell ends by the maximum presence, and would not end without it
abbrev pub presence_events : ℕ → Found → View → View → List Event
presence_events tick f was now = told tick PRESENCE_EXCEEDED (λ n. leaves_dwell was now n && not f.served)

-- its exit greens are all there
abbrev pub exit_events : ℕ → View → View → List Event
exit_events tick was now = told tick EXIT_BEGINS (begins (once_green was was.exits) (once_green now now.exits))

-- an event with a value that differs from the one before
abbrev pub if_differs : ℕ → ℕ → ℕ → ℕ → List Event
if_differs tick code before value = if before == value then [] else event tick code value ∷ []

-- the splits that differ, of phases 1 to 16
abbrev pub split_events : ℕ → Selected → Selected → List Event
split_events tick was now =
    flat_map (λ p. if_differs tick (SPLIT_CHANGES + p - 1) (was.split p) (now.split p)) (run_from 1 16)

-- the selected pattern, where another is selected
abbrev pub selection_events : ℕ → Selected → Selected → List Event
selection_events tick was now =
    if option_eq nat_eq was.pattern now.pattern then [] else event tick PATTERN_CHANGES (or_number now.pattern FREE) ∷ []

-- and cycle, offset and splits as far as these differ: of another pattern, or by a commit of the one that runs
abbrev pub pattern_events : ℕ → Selected → Selected → List Event
pattern_events tick was now =
    selection_events tick was now ++ if_differs tick CYCLE_CHANGES was.cycle now.cycle
    ++ if_differs tick OFFSET_CHANGES was.offset now.offset ++ split_events tick was now

-- the state of the cycle, where it is another than before
abbrev pub cycle_events : ℕ → View → View → List Event
cycle_events tick was now = if_differs tick CYCLE_STATE_CHANGES (number_of was.cycle) (number_of now.cycle)

-- local zero
abbrev pub zero_events : ℕ → Found → List Event
zero_events tick f = if f.zero then event tick CYCLE_STATE_CHANGES CYCLE_ZERO ∷ [] else []

-- yield points
abbrev pub yield_events : ℕ → Found → List Event
yield_events tick f = told tick YIELD_POINT f.yields

-- a flash by the monitor begins, or ends
abbrev pub flash_events : ℕ → View → View → List Event
flash_events tick was now =
    if now.flashes && not was.flashes then event tick FLASH_CHANGES FLASH ∷ []
    else (if was.flashes && not now.flashes then event tick FLASH_CHANGES NO_FLASH ∷ [] else [])

-- those of a tick that found this: by code, and those of one code by their parameters
abbrev pub tick_events : ℕ → Found → View → View → List Event
tick_events tick f was now =
    green_events tick was now ++ ending_events tick f ++ clearing_events tick was now ++ pedestrian_events tick was now
    ++ crossing_events tick was now ++ arrow_events tick was now ++ call_events tick f.noted.form was now ++ overlap_events tick was now
    ++ vehicle_events tick f.noted f.row was now ++ alarm_events tick was now ++ button_events tick f
    ++ request_events tick f.noted.row f.row was now ++ preempt_events tick was now ++ presence_events tick f was now ++ exit_events tick was now
    ++ (cycle_events tick was now ++ zero_events tick f) ++ yield_events tick f ++ flash_events tick was now

-- and those of any other input
abbrev pub other_events : ℕ → Noted → View → View → Selected → Selected → List Event
other_events tick noted was now was_selected now_selected =
    green_events tick was now ++ clearing_events tick was now ++ pedestrian_events tick was now
    ++ arrow_events tick was now ++ call_events tick noted.form was now ++ overlap_events tick was now
    ++ vehicle_events tick noted noted.row was now ++ alarm_events tick was now
    ++ request_events tick noted.row noted.row was now ++ preempt_events tick was now ++ exit_events tick was now
    ++ pattern_events tick was_selected now_selected ++ cycle_events tick was now ++ flash_events tick was now

-- of an input that leads from a state to another
abbrev pub events_between : Noted → State → Input → State → List Event
events_between noted s (Tick row) after = tick_events after.now (found noted s row after) (view s) (view after)
events_between noted s i after = other_events after.now noted (view s) (view after) (selected s) (selected after)

-- the events of an input at a state, in a log that has noted this before it
unfoldable pub events_of : Noted → State → Input → List Event
events_of noted s i = events_between noted s i (step s i)
