-- A quiet tick with the inputs of the tick before has no event.
use Rattle.std.proofs.Common.{◌≡◌, ◌∙◌, ℕ, ◌+◌, ◌≤◌, ◌==◌, Bool, true, false, not, ◌&&◌, ◌||◌, List, [], ◌∷◌, ◌++◌, map, Option, Some, None, is_some, is_none, if◌then◌else◌, refl, ap, sym, arith}
use Rattle.std.proofs.Math.Bool.{and-not_self}
use Rattle.tsb_cells.specs.declared.timer.Timer.{Timer}
use Rattle.tsb_cells.specs.declared.timer.Timer.TheVariants.{Off, On}
use Rattle.tsb_cells.specs.Timer.{advanced, is_on}
use Rattle.tsb_types.specs.Events.{event, told}
use Rattle.tsb_types.specs.Intervals.{is_green, is_yellow}
use Rattle.tsb_types.specs.Sets.{has_number}
use Rattle.tsb_types.specs.declared.event.TheConstants as codes
use Rattle.tsb_types.specs.declared.interval.Interval.{Interval}
use Rattle.tsb_types.specs.declared.interval.Interval.TheVariants.{Red, Green, Yellow, RedClear}
use Rattle.tsb_types.specs.declared.row.Row.{Row}
use Rattle.tsb_types.specs.declared.stage.Stage.{Stage}
use Rattle.tsb_types.specs.declared.stage.Stage.TheVariants.{Track, Dwell, Exit}
use Rattle.tsb_types.proofs.EventLemmas.{none-told, none-told_detectors}
use Rattle.tsb_types.proofs.NumberLemmas.{filter-none}
use Rattle.tsb_coord.specs.declared.cycle.CycleState.{CycleState}
use Rattle.tsb_coord.specs.declared.cycle.CycleState.TheVariants as cycles
use Rattle.tsb_coord.specs.Cycle.{cycle_state, number_of, yields}
use Rattle.tsb_calls.specs.Callable.{is_recalled}
use Rattle.tsb_calls.specs.Standing as standing
use Rattle.tsb_detect.specs.Detector as detector
use Rattle.tsb_detect.specs.Detector.{Detector}
use Rattle.tsb_phase.specs.declared.cause.Cause.{Cause}
use Rattle.tsb_phase.specs.declared.cause.Cause.TheVariants.{Gap, Maximum, ForceOff}
use Rattle.tsb_phase.specs.Causes as causes
use Rattle.tsb_phase.specs.Pedestrian.{ended_by}
use Rattle.tsb_phase.specs.Phase as phase
use Rattle.tsb_preempt.specs.Preempts as preempts
use Rattle.tsb_preempt.specs.Preempts.{is_dwell, is_exit}
use Rattle.tsb_preempt.specs.Promises.{stage_of}
use Rattle.tsb_preempt.specs.Service.{Service, service_as_read}
use Rattle.tsb_overlap.specs.Overlap as overlap
use Rattle.tsb_step.specs.declared.inputs.Input.TheVariants.{Tick}
use Rattle.tsb_step.specs.EventLaws.{EndsNoTime}
use Rattle.tsb_step.specs.Events as events
use Rattle.tsb_step.specs.declared.log_form.Noted.{Noted}
use Rattle.tsb_step.specs.Events.{View, Found, calls_now, events_between, events_of, found, is_cause, is_track, leaves_dwell, serves, shown_interval, completes_minimum, tick_events, times_red, view}
use Rattle.tsb_step.specs.Quiet.{IsQuiet, detectors_waited, waited}
use Rattle.tsb_step.specs.Signs.{display, stage}
use Rattle.tsb_step.specs.State.{State, Tripped, interval}
use Rattle.tsb_step.specs.Step.{step}
use Rattle.tsb_step.specs.Tick.{phases_given, phase_read}

-- ## Between equal views

told-none : (tick code : ℕ) (f : ℕ → Bool) → ((n : ℕ) → f n ≡ false) → told tick code f ≡ []
told-none tick code f none = ap (λ (ns : List ℕ). map (λ n. event tick code n) ns) (filter-none f 1 16 (λ n from below. none n))

told-within : (tick code : ℕ) (f : ℕ → Bool) → ((n : ℕ) → 1 ≤ n → n ≤ 16 → f n ≡ false) → told tick code f ≡ []
told-within tick code f none =
    ap (λ (ns : List ℕ). map (λ n. event tick code n) ns) (filter-none f 1 16 (λ n from below. none n from (omega (arith, below))))

-- what timed times on, and what was in red clearance was so before
times-on : (t r u : Bool) → (t && not u) ≡ false → ((t || (r && not r)) && not u) ≡ false
times-on true r u none = none
times-on false true u none = refl
times-on false false u none = refl

-- the cycle goes on as it did
same-state : (tick : ℕ) (c : CycleState) → events.if_differs tick codes.CYCLE_STATE_CHANGES (number_of c) (number_of c) ≡ []
same-state tick cycles.Free = refl
same-state tick cycles.InStep = refl
same-state tick cycles.Adds = refl
same-state tick cycles.Subtracts = refl
same-state tick cycles.Dwells = refl

-- a tick that found this: no cause, and the inputs of the tick before
abbrev same_inputs : (ℕ → Bool) → (ℕ → Bool) → (ℕ → Bool) → (ℕ → Bool) → Noted → Bool → (ℕ → Bool) → Bool → Found
same_inputs minimum gap maximum force_off noted zero yields served =
    record { minimum = minimum; gap = gap; maximum = maximum; force_off = force_off; noted = noted; row = noted.row; zero = zero; yields = yields; served = served }

-- of views that differ in what times of red clearances alone, none of which ends its time of phases 1 to 16
none-between : (tick : ℕ) (minimum gap maximum force_off timing : ℕ → Bool) (noted : Noted) (zero : Bool) (yields : ℕ → Bool) (state : CycleState) (served : Bool) (v : View) →
    ((n : ℕ) → 1 ≤ n → n ≤ 16 → minimum n ≡ false) → ((n : ℕ) → gap n ≡ false) →
    ((n : ℕ) → maximum n ≡ false) → ((n : ℕ) → force_off n ≡ false) → ((n : ℕ) → leaves_dwell v v n ≡ false) →
    ((n : ℕ) → 1 ≤ n → n ≤ 16 → (v.red_timings n && not (timing n)) ≡ false) →
    state ≡ v.cycle → zero ≡ false → ((n : ℕ) → 1 ≤ n → n ≤ 16 → yields n ≡ false) →
    tick_events tick (same_inputs minimum gap maximum force_off noted zero yields served) v (record v { red_timings = timing; cycle = state }) ≡ []
none-between tick minimum gap maximum force_off timing noted zero yields state served v no_minimum no_gap no_maximum no_force_off stays none same no_zero no_yield =
    λ i. (none-told tick codes.PHASE_ON v.greens i ++ none-told tick codes.GREEN_BEGINS v.greens i ++ none-told tick codes.CONFLICT_BEGINS v.conflicts i)
    ++ (told-within tick codes.MINIMUM_COMPLETE minimum no_minimum i ++ told-none tick codes.GAP_OUT gap no_gap i ++ told-none tick codes.MAX_OUT maximum no_maximum i
    ++ told-none tick codes.FORCE_OFF force_off no_force_off i)
    ++ (none-told tick codes.GREEN_ENDS v.greens i ++ none-told tick codes.YELLOW_BEGINS v.yellows i ++ none-told tick codes.YELLOW_ENDS v.yellows i
    ++ none-told tick codes.RED_CLEARANCE_BEGINS v.red_clearances i
    ++ told-within tick codes.RED_CLEARANCE_ENDS (events.ends_red_timing v (record v { red_timings = timing; cycle = state }))
    (λ n from to. times-on (v.red_timings n) (v.red_clearances n) (timing n) (none n from to)) i
    ++ none-told tick codes.PHASE_OFF (events.serving v) i)
    ++ (none-told tick codes.WALK_BEGINS v.walks i ++ none-told tick codes.CLEARANCE_BEGINS v.clearances i
    ++ none-told tick codes.DONT_WALK_BEGINS (λ n. v.walks n || v.clearances n) i)
    ++ (if and-not_self v.crosses i then event tick codes.BARRIER_CROSSED v.side ∷ [] else [])
    ++ (none-told tick codes.ARROW_BEGINS v.overlap_arrows i ++ none-told tick codes.ARROW_ENDS v.overlap_arrows i)
    ++ (none-told tick codes.CALL_COMES (events.vehicle_calls_in noted.form v) i ++ none-told tick codes.CALL_GOES (events.vehicle_calls_in noted.form v) i
    ++ none-told tick codes.PEDESTRIAN_CALL_COMES (events.pedestrian_calls_in noted.form v) i)
    ++ (none-told tick codes.OVERLAP_GREEN_BEGINS v.overlap_greens i ++ none-told tick codes.OVERLAP_TRAIL_BEGINS v.overlap_trails i
    ++ none-told tick codes.OVERLAP_YELLOW_BEGINS v.overlap_yellows i ++ none-told tick codes.OVERLAP_RED_BEGINS (events.lit_overlaps v) i
    ++ none-told tick codes.OVERLAP_OFF v.overlaps_off i)
    ++ (none-told_detectors tick codes.VEHICLE_OFF (events.vehicles_in noted.form noted.row v) i
    ++ none-told_detectors tick codes.VEHICLE_ON (events.vehicles_in noted.form noted.row v) i)
    ++ (none-told_detectors tick codes.ALARM_GOES v.alarms i ++ none-told_detectors tick codes.ALARM_COMES v.alarms i)
    ++ (none-told tick codes.PEDESTRIAN_OFF (has_number noted.row.pedestrians) i ++ none-told tick codes.PEDESTRIAN_ON (has_number noted.row.pedestrians) i)
    ++ (none-told tick codes.PREEMPT_ON (events.requests noted.row v) i ++ none-told tick codes.PREEMPT_OFF (events.requests noted.row v) i)
    ++ (none-told tick codes.PREEMPT_ENTERS v.preempts i ++ none-told tick codes.TRACK_BEGINS (events.once_green v v.tracks) i
    ++ none-told tick codes.DWELL_BEGINS (events.once_green v v.dwells) i)
    ++ told-none tick codes.PRESENCE_EXCEEDED (λ n. leaves_dwell v v n && not served) (λ n j. stays n j && not served) i
    ++ none-told tick codes.EXIT_BEGINS (events.once_green v v.exits) i
    ++ (goes_on i ++ (if no_zero i then event tick codes.CYCLE_STATE_CHANGES codes.CYCLE_ZERO ∷ [] else []))
    ++ told-within tick codes.YIELD_POINT yields no_yield i
    ++ (if and-not_self v.flashes i then event tick codes.FLASH_CHANGES codes.FLASH ∷ []
    else (if and-not_self v.flashes i then event tick codes.FLASH_CHANGES codes.NO_FLASH ∷ [] else []))
  where
    goes_on : events.if_differs tick codes.CYCLE_STATE_CHANGES (number_of v.cycle) (number_of state) ≡ []
    goes_on = ap (λ (c : CycleState). events.if_differs tick codes.CYCLE_STATE_CHANGES (number_of v.cycle) (number_of c)) same ∙ same-state tick v.cycle

-- ## What a log sees once timers have run on

same-on : (t : Timer) → is_on (advanced t) ≡ is_on t
same-on Off = refl
same-on (On n) = refl

same-output : (f : ℕ → Detector) (d : ℕ) → (detectors_waited f d).output ≡ (f d).output
same-output f d = go (detector.is_detector d)
  where
    go : (b : Bool) → (if b then detector.as_read (f d) else f d).output ≡ (f d).output
    go true = refl
    go false = refl

same-actuated : (f : ℕ → Detector) (d : ℕ) → (detectors_waited f d).actuated ≡ (f d).actuated
same-actuated f d = go (detector.is_detector d)
  where
    go : (b : Bool) → (if b then detector.as_read (f d) else f d).actuated ≡ (f d).actuated
    go true = refl
    go false = refl

same-alarm : (f : ℕ → Detector) (d : ℕ) → (detectors_waited f d).alarm ≡ (f d).alarm
same-alarm f d = go (detector.is_detector d)
  where
    go : (b : Bool) → (if b then detector.as_read (f d) else f d).alarm ≡ (f d).alarm
    go true = refl
    go false = refl

same-stage : (x : Option Service) → stage_of (service_as_read x) ≡ stage_of x
same-stage None = refl
same-stage (Some x) = refl

-- the state with its timers run on
abbrev ran : State → State
ran s = record s {
  now = s.now + 1;
  detectors = detectors_waited s.detectors;
  phases = λ p. phase.as_read (s.phases p);
  preempts = preempts.as_read s.preempts;
  overlaps = λ o. overlap.as_read (s.overlaps o);
}

-- how the cycle goes in the next tick
abbrev next_cycle : State → CycleState
next_cycle s = cycle_state s.plan s.pattern s.correction (s.now + 1)

view-ran : (s : State) → view (ran s) ≡ record (view s) { red_timings = times_red (ran s); cycle = next_cycle s }
unfolding view display
view-ran s =
    λ i. record (view s) {
      red_timings = times_red (ran s);
      cycle = next_cycle s;
      conflicts = λ p. is_green (shown_interval s p) && same-on (s.phases p).conflict i;
      vehicle_calls = standing.vehicle_call s.plan (given i) s.memories;
      pedestrian_calls = standing.pedestrian_call s.plan (given i) s.memories;
      recalls = is_recalled s.plan (given i);
      outputs = λ d. same-output s.detectors d i;
      alarms = λ d. is_some (same-alarm s.detectors d i);
      preempts = serves (λ k. true) (same-stage s.preempts.service i);
      tracks = serves is_track (same-stage s.preempts.service i);
      dwells = serves is_dwell (same-stage s.preempts.service i);
      exits = serves is_exit (same-stage s.preempts.service i);
      is_preempted = is_some (same-stage s.preempts.service i);
      stage_is_green = events.stage_is_green s.plan (shown_interval s) (same-stage s.preempts.service i);
    }
  where
    given : calls_now (ran s) ≡ calls_now s
    given = λ i. record (calls_now s) { output = λ d. same-output s.detectors d i; actuated = λ d. same-actuated s.detectors d i }

-- the tick number is not seen
view-later : (s : State) → view (record s { now = s.now + 1 }) ≡ record (view s) { red_timings = times_red (record s { now = s.now + 1 }); cycle = next_cycle s }
unfolding view display
view-later s = refl

-- ## Quiet ticks

-- no phase is Green and Yellow
pub not-both : (i : Interval) (x : Bool) → (is_green i && (is_yellow i && x)) ≡ false
not-both Red x = refl
not-both Green x = refl
not-both Yellow x = refl
not-both RedClear x = refl

-- a preempt in its dwell is in service, and not in its exit
in-dwell : (x : Option (ℕ × Stage)) (n : ℕ) → (serves is_dwell x n && (serves is_exit x n || not (is_some x))) ≡ false
in-dwell None n = refl
in-dwell (Some x) n = go (x.0 == n) x.1
  where
    go : (b : Bool) (k : Stage) → ((b && is_dwell k) && ((b && is_exit k) || false)) ≡ false
    go false k = refl
    go true Track = refl
    go true Dwell = refl
    go true Exit = refl

dwells-on : (s : State) (n : ℕ) → leaves_dwell (view s) (view s) n ≡ false
unfolding view
dwells-on s n = in-dwell (stage s) n

cycle-seen : (s : State) → (view s).cycle ≡ cycle_state s.plan s.pattern s.correction s.now
unfolding view
cycle-seen s = refl

timed : (s : State) (p : ℕ) → (view s).red_timings p ≡ times_red s p
unfolding view
timed s p = refl

waited-none : (noted : Noted) (s : State) → EndsNoTime s → events_between noted s (Tick noted.row) (waited s) ≡ []
waited-none noted s none = go s.trip none
  where
    row : Row
    row = noted.row

    no_cause : (s t : State) (c : Cause) → ((o : Option Cause) → o ≡ None → is_cause c o ≡ false) → (p : ℕ) → interval t p ≡ interval s p →
        is_cause c (events.cause_of s row t p) ≡ false
    no_cause s t c none p same =
        none (events.cause_of s row t p)
        (ap (λ (i : Interval). if is_green (interval s p) && (is_yellow i && is_none (ended_by (phases_given s row) p))
        then causes.cause s.plan (phases_given s row) p (phase_read s p) else None) same
        ∙ ap (λ (b : Bool). if b then causes.cause s.plan (phases_given s row) p (phase_read s p) else None)
        (not-both (interval s p) (is_none (ended_by (phases_given s row) p))))

    of_gap : (o : Option Cause) → o ≡ None → is_cause Gap o ≡ false
    of_gap o e = ap (is_cause Gap) e

    of_maximum : (o : Option Cause) → o ≡ None → is_cause Maximum o ≡ false
    of_maximum o e = ap (is_cause Maximum) e

    of_force_off : (o : Option Cause) → o ≡ None → is_cause ForceOff o ≡ false
    of_force_off o e = ap (is_cause ForceOff) e

    none_of : (s t : State) → interval t ≡ interval s → view t ≡ record (view s) { red_timings = times_red t; cycle = next_cycle s } → EndsNoTime s →
        ((p : ℕ) → 1 ≤ p → p ≤ 16 → completes_minimum s p ≡ false) → ((p : ℕ) → 1 ≤ p → p ≤ 16 → (times_red s p && not (times_red t p)) ≡ false) →
        events_between noted s (Tick row) t ≡ []
    none_of s t same seen no_time completes ends =
        ap (λ (v : View). tick_events t.now (found noted s row t) (view s) v) seen
        ∙ none-between t.now _ _ _ _ (times_red t) noted _ _ (next_cycle s) _ (view s) completes (λ p. no_cause s t Gap of_gap p (λ i. same i p))
        (λ p. no_cause s t Maximum of_maximum p (λ i. same i p)) (λ p. no_cause s t ForceOff of_force_off p (λ i. same i p)) (dwells-on s)
        (λ p from to. ap (λ (b : Bool). b && not (times_red t p)) (timed s p) ∙ ends p from to)
        (no_time.cycle ∙ sym (cycle-seen s)) no_time.zero no_time.yields

    go : (trip : Option Tripped) → EndsNoTime (record s { trip = trip }) →
        events_between noted (record s { trip = trip }) (Tick row) (waited (record s { trip = trip })) ≡ []
    go (Some trip) ends = none_of (record s { trip = Some trip }) (record s { trip = Some trip; now = s.now + 1 }) refl (view-later (record s { trip = Some trip })) ends ends.minimum ends.red
    go None ends = none_of (record s { trip = None }) (ran (record s { trip = None })) refl (view-ran (record s { trip = None })) ends ends.minimum ends.red

pub quiet-tells-none : (noted : Noted) (s : State) → IsQuiet s (step s (Tick noted.row)) → EndsNoTime s → events_of noted s (Tick noted.row) ≡ []
unfolding events_of
quiet-tells-none noted s quiet ends = ap (λ (after : State). events_between noted s (Tick noted.row) after) quiet ∙ waited-none noted s ends
