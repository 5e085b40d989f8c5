-- Views that agree on the numbers 1 to 16, and on all vehicle detectors, have the same events.
use Rattle.std.proofs.Common.{◌≡◌, ℕ, ◌+◌, ◌-◌, ◌<◌, ◌≤◌, Bool, not, ◌&&◌, ◌||◌, zero, suc, List, [], ◌∷◌, ◌++◌, map, filter, flat_map, if◌then◌else◌, nat_eq, refl, ap, arith}
use Rattle.std.specs.Option.{option_eq}
use Rattle.tsb_types.specs.declared.limits.TheConstants.{VEHICLE_DETECTORS}
use Rattle.tsb_types.specs.Clip.{Agree}
use Rattle.tsb_types.specs.Lists.{or_number, run_from}
use Rattle.tsb_types.specs.Sets.{has_detector, has_number}
use Rattle.tsb_types.specs.Events.{event, told, told_detectors, begins, either}
use Rattle.tsb_types.specs.declared.event.Event.{Event}
use Rattle.tsb_types.specs.declared.event.TheConstants as codes
use Rattle.tsb_types.specs.declared.row.Row.{Row}
use Rattle.tsb_step.specs.declared.log_form.LogForm.{LogForm}
use Rattle.tsb_step.specs.tsb_coord.Cycle.{number_of}
use Rattle.tsb_step.specs.tsb_detect.Laws.{AgreeOnDetectors}
use Rattle.tsb_step.specs.Events as events
use Rattle.tsb_step.specs.declared.log_form.Noted.{Noted}
use Rattle.tsb_step.specs.Events.{View, Found, Selected}
use Rattle.tsb_events.specs.Agree.{AgreeInAll, AgreeInFound, AgreeInSelected}

filter-within : (f g : ℕ → Bool) (a n : ℕ) → ((k : ℕ) → a ≤ k → k < a + n → f k ≡ g k) → filter f (run_from a n) ≡ filter g (run_from a n)
unfolding run_from
filter-within f g a zero same = refl
filter-within f g a (suc n) same =
    rw (same a (omega arith) (omega arith))
    (ap (λ (ks : List ℕ). if g a then a ∷ ks else ks)
    (filter-within f g (a + 1) n (λ k from below. same k (omega (arith, from)) (omega (arith, below)))))

pub told-same : (tick code : ℕ) (f g : ℕ → Bool) → Agree f g → told tick code f ≡ told tick code g
told-same tick code f g same =
    ap (λ (ns : List ℕ). map (λ n. event tick code n) ns)
    (filter-within f g 1 16 (λ k from below. same k from (omega (arith, below))))

pub told_detectors-same : (tick code : ℕ) (f g : ℕ → Bool) → AgreeOnDetectors f g → told_detectors tick code f ≡ told_detectors tick code g
told_detectors-same tick code f g same =
    ap (λ (ns : List ℕ). map (λ n. event tick code n) ns)
    (filter-within f g 1 VEHICLE_DETECTORS (λ k from below. same k from (omega (arith, below))))

pub detectors_begun-same : (tick code : ℕ) (f g h k : ℕ → Bool) → AgreeOnDetectors f g → AgreeOnDetectors h k →
    told_detectors tick code (begins f h) ≡ told_detectors tick code (begins g k)
detectors_begun-same tick code f g h k was now =
    told_detectors-same tick code (begins f h) (begins g k) (λ n from to i. now n from to i && not (was n from to i))

pub agree-either : (f g h k : ℕ → Bool) → Agree f g → Agree h k → Agree (either f h) (either g k)
agree-either f g h k one other n from to = λ i. one n from to i || other n from to i

agree-begins : (f g h k : ℕ → Bool) → Agree f g → Agree h k → Agree (begins f h) (begins g k)
agree-begins f g h k was now n from to = λ i. now n from to i && not (was n from to i)

-- what begins, and so what ends, has the same events
pub begun-same : (tick code : ℕ) (f g h k : ℕ → Bool) → Agree f g → Agree h k → told tick code (begins f h) ≡ told tick code (begins g k)
begun-same tick code f g h k was now = told-same tick code (begins f h) (begins g k) (agree-begins f g h k was now)

-- ## Group by group

green-same : (tick : ℕ) (v w x y : View) → AgreeInAll v w → AgreeInAll x y → events.green_events tick v x ≡ events.green_events tick w y
green-same tick v w x y was now =
    λ i. begun-same tick codes.PHASE_ON _ _ _ _ was.greens now.greens i ++ begun-same tick codes.GREEN_BEGINS _ _ _ _ was.greens now.greens i
    ++ begun-same tick codes.CONFLICT_BEGINS _ _ _ _ was.conflicts now.conflicts i

ending-same : (tick : ℕ) (f g : Found) → AgreeInFound f g → events.ending_events tick f ≡ events.ending_events tick g
ending-same tick f g same =
    λ i. told-same tick codes.MINIMUM_COMPLETE _ _ same.minimum i ++ told-same tick codes.GAP_OUT _ _ same.gap i ++ told-same tick codes.MAX_OUT _ _ same.maximum i
    ++ told-same tick codes.FORCE_OFF _ _ same.force_off i

serving-agree : (v w : View) → AgreeInAll v w → Agree (events.serving v) (events.serving w)
serving-agree v w same = agree-either _ _ _ _ (agree-either _ _ _ _ same.greens same.yellows) same.red_clearances

clearing-same : (tick : ℕ) (v w x y : View) → AgreeInAll v w → AgreeInAll x y → events.clearing_events tick v x ≡ events.clearing_events tick w y
clearing-same tick v w x y was now =
    λ i. begun-same tick codes.GREEN_ENDS _ _ _ _ now.greens was.greens i
    ++ begun-same tick codes.YELLOW_BEGINS _ _ _ _ was.yellows now.yellows i
    ++ begun-same tick codes.YELLOW_ENDS _ _ _ _ now.yellows was.yellows i
    ++ begun-same tick codes.RED_CLEARANCE_BEGINS _ _ _ _ was.red_clearances now.red_clearances i
    ++ begun-same tick codes.RED_CLEARANCE_ENDS _ _ _ _ now.red_timings
    (agree-either _ _ _ _ was.red_timings (agree-begins _ _ _ _ was.red_clearances now.red_clearances)) i
    ++ begun-same tick codes.PHASE_OFF _ _ _ _ (serving-agree _ _ now) (serving-agree _ _ was) i

pedestrian-same : (tick : ℕ) (v w x y : View) → AgreeInAll v w → AgreeInAll x y →
    events.pedestrian_events tick v x ≡ events.pedestrian_events tick w y
pedestrian-same tick v w x y was now =
    λ i. begun-same tick codes.WALK_BEGINS _ _ _ _ was.walks now.walks i
    ++ begun-same tick codes.CLEARANCE_BEGINS _ _ _ _ was.clearances now.clearances i
    ++ begun-same tick codes.DONT_WALK_BEGINS _ _ _ _ (agree-either _ _ _ _ now.walks now.clearances) (agree-either _ _ _ _ was.walks was.clearances) i

crossing-same : (tick : ℕ) (v w x y : View) → AgreeInAll v w → AgreeInAll x y → events.crossing_events tick v x ≡ events.crossing_events tick w y
crossing-same tick v w x y was now =
    λ i. if was.crosses i && not (now.crosses i) then event tick codes.BARRIER_CROSSED (now.side i) ∷ [] else []

agree-but : (form : LogForm) (f g h k : ℕ → Bool) → Agree f g → Agree h k → Agree (events.but_recalls form f h) (events.but_recalls form g k)
agree-but form f g h k calls recalls n from to = λ i. if form.recalls then calls n from to i else calls n from to i && not (recalls n from to i)

call-same : (tick : ℕ) (form : LogForm) (v w x y : View) → AgreeInAll v w → AgreeInAll x y →
    events.call_events tick form v x ≡ events.call_events tick form w y
call-same tick form v w x y was now =
    let vehicle_was = agree-but form _ _ _ _ was.vehicle_calls was.recalls in
    let vehicle = agree-but form _ _ _ _ now.vehicle_calls now.recalls in
    let pedestrian_was = agree-but form _ _ _ _ was.pedestrian_calls was.pedestrian_recalls in
    let pedestrian = agree-but form _ _ _ _ now.pedestrian_calls now.pedestrian_recalls in
    λ i. begun-same tick codes.CALL_COMES _ _ _ _ vehicle_was vehicle i
    ++ begun-same tick codes.CALL_GOES _ _ _ _ vehicle vehicle_was i
    ++ begun-same tick codes.PEDESTRIAN_CALL_COMES _ _ _ _ pedestrian_was pedestrian i

arrow-same : (tick : ℕ) (v w x y : View) → AgreeInAll v w → AgreeInAll x y → events.arrow_events tick v x ≡ events.arrow_events tick w y
arrow-same tick v w x y was now =
    λ i. begun-same tick codes.ARROW_BEGINS _ _ _ _ was.overlap_arrows now.overlap_arrows i
    ++ begun-same tick codes.ARROW_ENDS _ _ _ _ now.overlap_arrows was.overlap_arrows i

lit-agree : (v w : View) → AgreeInAll v w → Agree (events.lit_overlaps v) (events.lit_overlaps w)
lit-agree v w same = agree-either _ _ _ _ (agree-either _ _ _ _ same.overlap_greens same.overlap_yellows) same.overlap_arrows

overlap-same : (tick : ℕ) (v w x y : View) → AgreeInAll v w → AgreeInAll x y → events.overlap_events tick v x ≡ events.overlap_events tick w y
overlap-same tick v w x y was now =
    λ i. begun-same tick codes.OVERLAP_GREEN_BEGINS _ _ _ _ was.overlap_greens now.overlap_greens i
    ++ begun-same tick codes.OVERLAP_TRAIL_BEGINS _ _ _ _ was.overlap_trails now.overlap_trails i
    ++ begun-same tick codes.OVERLAP_YELLOW_BEGINS _ _ _ _ was.overlap_yellows now.overlap_yellows i
    ++ begun-same tick codes.OVERLAP_RED_BEGINS _ _ _ _ (lit-agree _ _ now) (lit-agree _ _ was) i
    ++ begun-same tick codes.OVERLAP_OFF _ _ _ _ was.overlaps_off now.overlaps_off i

vehicles-agree : (form : LogForm) (row : Row) (v w : View) → AgreeInAll v w →
    AgreeOnDetectors (events.vehicles_in form row v) (events.vehicles_in form row w)
vehicles-agree form row v w same n from to = λ i. if form.outputs then same.outputs n from to i else has_detector row.vehicles n

vehicle-same : (tick : ℕ) (noted : Noted) (row : Row) (v w x y : View) → AgreeInAll v w → AgreeInAll x y →
    events.vehicle_events tick noted row v x ≡ events.vehicle_events tick noted row w y
vehicle-same tick noted row v w x y was now =
    let on_was = vehicles-agree noted.form noted.row v w was in
    let on = vehicles-agree noted.form row x y now in
    λ i. detectors_begun-same tick codes.VEHICLE_OFF _ _ _ _ on on_was i ++ detectors_begun-same tick codes.VEHICLE_ON _ _ _ _ on_was on i

alarm-same : (tick : ℕ) (v w x y : View) → AgreeInAll v w → AgreeInAll x y → events.alarm_events tick v x ≡ events.alarm_events tick w y
alarm-same tick v w x y was now =
    λ i. detectors_begun-same tick codes.ALARM_GOES _ _ _ _ now.alarms was.alarms i
    ++ detectors_begun-same tick codes.ALARM_COMES _ _ _ _ was.alarms now.alarms i

button-same : (tick : ℕ) (f g : Found) → AgreeInFound f g → events.button_events tick f ≡ events.button_events tick g
button-same tick f g same =
    λ i. told tick codes.PEDESTRIAN_OFF (begins (has_number (same.row i).pedestrians) (has_number (same.noted i).row.pedestrians))
    ++ told tick codes.PEDESTRIAN_ON (begins (has_number (same.noted i).row.pedestrians) (has_number (same.row i).pedestrians))

requests-agree : (row : Row) (v w : View) → AgreeInAll v w → Agree (events.requests row v) (events.requests row w)
requests-agree row v w same n from to = λ i. has_number row.preempts n || same.switches n from to i

request-same : (tick : ℕ) (last row : Row) (v w x y : View) → AgreeInAll v w → AgreeInAll x y →
    events.request_events tick last row v x ≡ events.request_events tick last row w y
request-same tick last row v w x y was now =
    let asked_was = requests-agree last v w was in
    let asked = requests-agree row x y now in
    λ i. begun-same tick codes.PREEMPT_ON _ _ _ _ asked_was asked i ++ begun-same tick codes.PREEMPT_OFF _ _ _ _ asked asked_was i

green-agree : (v w : View) (f g : ℕ → Bool) → AgreeInAll v w → Agree f g → Agree (events.once_green v f) (events.once_green w g)
green-agree v w f g same stage n from to = λ i. same.stage_is_green i && stage n from to i

preempt-same : (tick : ℕ) (v w x y : View) → AgreeInAll v w → AgreeInAll x y → events.preempt_events tick v x ≡ events.preempt_events tick w y
preempt-same tick v w x y was now =
    λ i. begun-same tick codes.PREEMPT_ENTERS _ _ _ _ was.preempts now.preempts i
    ++ begun-same tick codes.TRACK_BEGINS _ _ _ _ (green-agree _ _ _ _ was was.tracks) (green-agree _ _ _ _ now now.tracks) i
    ++ begun-same tick codes.DWELL_BEGINS _ _ _ _ (green-agree _ _ _ _ was was.dwells) (green-agree _ _ _ _ now now.dwells) i

presence-same : (tick : ℕ) (f g : Found) (v w x y : View) → AgreeInFound f g → AgreeInAll v w → AgreeInAll x y →
    events.presence_events tick f v x ≡ events.presence_events tick g w y
presence-same tick f g v w x y same was now =
    told-same tick codes.PRESENCE_EXCEEDED _ _
    (λ n from to i. (was.dwells n from to i && (now.exits n from to i || not (now.is_preempted i))) && not (same.served i))

exit-same : (tick : ℕ) (v w x y : View) → AgreeInAll v w → AgreeInAll x y → events.exit_events tick v x ≡ events.exit_events tick w y
exit-same tick v w x y was now =
    begun-same tick codes.EXIT_BEGINS _ _ _ _ (green-agree _ _ _ _ was was.exits) (green-agree _ _ _ _ now now.exits)

cycle-same : (tick : ℕ) (v w x y : View) → AgreeInAll v w → AgreeInAll x y → events.cycle_events tick v x ≡ events.cycle_events tick w y
cycle-same tick v w x y was now = λ i. events.if_differs tick codes.CYCLE_STATE_CHANGES (number_of (was.cycle i)) (number_of (now.cycle i))

zero-same : (tick : ℕ) (f g : Found) → AgreeInFound f g → events.zero_events tick f ≡ events.zero_events tick g
zero-same tick f g same = λ i. if same.zero i then event tick codes.CYCLE_STATE_CHANGES codes.CYCLE_ZERO ∷ [] else []

yield-same : (tick : ℕ) (f g : Found) → AgreeInFound f g → events.yield_events tick f ≡ events.yield_events tick g
yield-same tick f g same = told-same tick codes.YIELD_POINT _ _ same.yields

flash-same : (tick : ℕ) (v w x y : View) → AgreeInAll v w → AgreeInAll x y → events.flash_events tick v x ≡ events.flash_events tick w y
flash-same tick v w x y was now =
    λ i. if now.flashes i && not (was.flashes i) then event tick codes.FLASH_CHANGES codes.FLASH ∷ []
    else (if was.flashes i && not (now.flashes i) then event tick codes.FLASH_CHANGES codes.NO_FLASH ∷ [] else [])

flat-within : (f g : ℕ → List Event) (a n : ℕ) → ((k : ℕ) → a ≤ k → k < a + n → f k ≡ g k) → flat_map f (run_from a n) ≡ flat_map g (run_from a n)
unfolding run_from
flat-within f g a zero same = refl
flat-within f g a (suc n) same =
    rw (same a (omega arith) (omega arith))
    (ap (λ (es : List Event). g a ++ es)
    (flat-within f g (a + 1) n (λ k from below. same k (omega (arith, from)) (omega (arith, below)))))

split-same : (tick : ℕ) (s s_too t t_too : Selected) → AgreeInSelected s s_too → AgreeInSelected t t_too →
    events.split_events tick s t ≡ events.split_events tick s_too t_too
split-same tick s s_too t t_too was now =
    flat-within (λ p. events.if_differs tick (codes.SPLIT_CHANGES + p - 1) (s.split p) (t.split p))
    (λ p. events.if_differs tick (codes.SPLIT_CHANGES + p - 1) (s_too.split p) (t_too.split p)) 1 16
    (λ p from below i. events.if_differs tick (codes.SPLIT_CHANGES + p - 1) (was.split p from (omega (arith, below)) i) (now.split p from (omega (arith, below)) i))

pattern-same : (tick : ℕ) (s s_too t t_too : Selected) → AgreeInSelected s s_too → AgreeInSelected t t_too →
    events.pattern_events tick s t ≡ events.pattern_events tick s_too t_too
pattern-same tick s s_too t t_too was now =
    λ i. (if option_eq nat_eq (was.pattern i) (now.pattern i) then [] else event tick codes.PATTERN_CHANGES (or_number (now.pattern i) codes.FREE) ∷ [])
    ++ events.if_differs tick codes.CYCLE_CHANGES (was.cycle i) (now.cycle i)
    ++ events.if_differs tick codes.OFFSET_CHANGES (was.offset i) (now.offset i)
    ++ split-same tick s s_too t t_too was now i

-- ## All groups

pub ticks-same : (tick : ℕ) (f g : Found) (v w x y : View) → AgreeInFound f g → AgreeInAll v w → AgreeInAll x y →
    events.tick_events tick f v x ≡ events.tick_events tick g w y
ticks-same tick f g v w x y same was now =
    λ i. green-same tick v w x y was now i ++ ending-same tick f g same i ++ clearing-same tick v w x y was now i
    ++ pedestrian-same tick v w x y was now i ++ crossing-same tick v w x y was now i
    ++ arrow-same tick v w x y was now i ++ call-same tick (same.noted i).form v w x y was now i
    ++ overlap-same tick v w x y was now i ++ vehicle-same tick (same.noted i) (same.row i) v w x y was now i
    ++ alarm-same tick v w x y was now i ++ button-same tick f g same i
    ++ request-same tick (same.noted i).row (same.row i) v w x y was now i ++ preempt-same tick v w x y was now i
    ++ presence-same tick f g v w x y same was now i ++ exit-same tick v w x y was now i
    ++ (cycle-same tick v w x y was now i ++ zero-same tick f g same i) ++ yield-same tick f g same i ++ flash-same tick v w x y was now i

pub others-same : (tick : ℕ) (noted : Noted) (v w x y : View) (s s_too t t_too : Selected) → AgreeInAll v w → AgreeInAll x y →
    AgreeInSelected s s_too → AgreeInSelected t t_too →
    events.other_events tick noted v x s t ≡ events.other_events tick noted w y s_too t_too
others-same tick noted v w x y s s_too t t_too was now selected_was selected_now =
    λ i. green-same tick v w x y was now i ++ clearing-same tick v w x y was now i
    ++ pedestrian-same tick v w x y was now i ++ arrow-same tick v w x y was now i ++ call-same tick noted.form v w x y was now i
    ++ overlap-same tick v w x y was now i ++ vehicle-same tick noted noted.row v w x y was now i
    ++ alarm-same tick v w x y was now i ++ request-same tick noted.row noted.row v w x y was now i ++ preempt-same tick v w x y was now i ++ exit-same tick v w x y was now i
    ++ pattern-same tick s s_too t t_too selected_was selected_now i ++ cycle-same tick v w x y was now i ++ flash-same tick v w x y was now i
