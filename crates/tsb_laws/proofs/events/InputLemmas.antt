-- The events of inputs among those of a run are those of its log.
use Rattle.std.proofs.Common.{◌≡◌, ◌∙◌, ℕ, Bool, true, false, ◌||◌, if◌then◌else◌, List, [], ◌∷◌, ◌++◌, filter, refl, sym, ap, inl, inr, append_assoc}
use Rattle.std.proofs.lemmas.Bool.{cases_Bool}
use Rattle.std.proofs.lemmas.List.{append-nil}
use Rattle.std.proofs.lemmas.List.Elements.{filter-append}
use Rattle.tsb_step.specs.tsb_types.Events.{told, told_detectors, begins, ends}
use Rattle.tsb_step.specs.tsb_types.Lists.{among}
use Rattle.tsb_step.specs.tsb_types.Sets.{all_off, has_detector, has_number, is_same_row}
use Rattle.tsb_step.specs.tsb_types.declared.event.Event.{Event}
use Rattle.tsb_step.specs.tsb_types.declared.event.TheConstants as codes
use Rattle.tsb_step.specs.tsb_types.declared.row.Row.{Row}
use Rattle.tsb_step.proofs.tsb_types.EventLemmas as none
use Rattle.tsb_step.proofs.tsb_types.SetLemmas.{same-row}
use Rattle.tsb_step.specs.tsb_plan.Plan.{Plan}
use Rattle.tsb_step.specs.declared.inputs.Input.{Input}
use Rattle.tsb_step.specs.declared.inputs.Input.TheVariants as inputs
use Rattle.tsb_step.specs.Events as events
use Rattle.tsb_step.specs.declared.log_form.LogForm.{LogForm}
use Rattle.tsb_step.specs.declared.log_form.Noted.{Noted}
use Rattle.tsb_step.specs.Events.{View, Found, Selected, events_of, found, requests, selected, vehicles_in, view}
use Rattle.tsb_step.specs.Runs.{replay}
use Rattle.tsb_step.specs.State.{State}
use Rattle.tsb_step.specs.Step.{step}
use Rattle.tsb_events.proofs.OrderLemmas.{alarm-span, arrow-span, call-span, clearing-span, crossing-span, ending-span, cycle-span, flash-span, green-span, one-code, overlap-span, pattern-span, pedestrian-span, preempt-span, zero-span}
use Rattle.tsb_log_text.specs.declared.log.LogRow.{LogRow}
use Rattle.tsb_field_display.specs.Inputs.{events_behind, events_of_row, events_of_rows}
use Rattle.tsb_field_display.specs.SessionLaws.{is_of_input}
use Rattle.tsb_text.specs.kept.Kept.{last_row}
use Rattle.tsb_text.specs.recording.Along.{noted_after, told_along}
use Rattle.tsb_laws.specs.Told.{AreSwitchesOff, InputsMakeTheLog, if_changed, log_of}
use Rattle.tsb_laws.proofs.events.KeptLemmas.{Kept, both, first-alone, second-alone, all-told, all-told_detectors, none-of, not-among}

-- ## What is kept of the events of an input

-- inputs have events of these codes
abbrev input_codes : List ℕ
input_codes = 81 ∷ 82 ∷ 89 ∷ 90 ∷ 102 ∷ 104 ∷ []

abbrev pub by_input : ℕ → Bool
by_input c = among c input_codes

kept-vehicle : (tick : ℕ) (noted : Noted) (row : Row) (v w : View) → Kept by_input (events.vehicle_events tick noted row v w) (events.vehicle_events tick noted row v w)
kept-vehicle tick noted row v w = both (all-told_detectors by_input tick codes.VEHICLE_OFF _ refl) (all-told_detectors by_input tick codes.VEHICLE_ON _ refl)

kept-button : (tick : ℕ) (f : Found) → Kept by_input (events.button_events tick f) (events.button_events tick f)
kept-button tick f = both (all-told by_input tick codes.PEDESTRIAN_OFF _ refl) (all-told by_input tick codes.PEDESTRIAN_ON _ refl)

kept-request : (tick : ℕ) (last row : Row) (v w : View) → Kept by_input (events.request_events tick last row v w) (events.request_events tick last row v w)
kept-request tick last row v w = both (all-told by_input tick codes.PREEMPT_ON _ refl) (all-told by_input tick codes.PREEMPT_OFF _ refl)

pub ticks-kept : (tick : ℕ) (f : Found) (v w : View) → Kept by_input (events.tick_events tick f v w)
    (events.vehicle_events tick f.noted f.row v w ++ events.button_events tick f ++ events.request_events tick f.noted.row f.row v w)
ticks-kept tick f v w =
    first-alone (first-alone (first-alone (first-alone (first-alone (first-alone (both (both (first-alone (second-alone before (kept-vehicle tick f.noted f.row v w))
    (none-of (alarm-span tick v w) (not-among 83 85 input_codes refl))) (kept-button tick f)) (kept-request tick f.noted.row f.row v w))
    (none-of (preempt-span tick v w) (not-among 105 108 input_codes refl)))
    (none-of (one-code tick codes.PRESENCE_EXCEEDED _) (not-among 110 111 input_codes refl)))
    (none-of (one-code tick codes.EXIT_BEGINS _) (not-among 111 112 input_codes refl)))
    (none-of (zero-span tick f v w) (not-among 150 151 input_codes refl)))
    (none-of (one-code tick codes.YIELD_POINT _) (not-among 151 152 input_codes refl)))
    (none-of (flash-span tick v w) (not-among 173 174 input_codes refl))
  where
    before : Kept by_input
        (events.green_events tick v w ++ events.ending_events tick f ++ events.clearing_events tick v w ++ events.pedestrian_events tick v w
        ++ events.crossing_events tick v w ++ events.arrow_events tick v w ++ events.call_events tick f.noted.form v w
        ++ events.overlap_events tick v w) []
    before =
        first-alone (first-alone (first-alone (first-alone (first-alone (first-alone (first-alone
        (none-of (green-span tick v w) (not-among 0 3 input_codes refl))
        (none-of (ending-span tick f) (not-among 3 7 input_codes refl)))
        (none-of (clearing-span tick v w) (not-among 7 13 input_codes refl)))
        (none-of (pedestrian-span tick v w) (not-among 21 24 input_codes refl)))
        (none-of (crossing-span tick v w) (not-among 31 32 input_codes refl)))
        (none-of (arrow-span tick v w) (not-among 32 34 input_codes refl)))
        (none-of (call-span tick f.noted.form v w) (not-among 43 46 input_codes refl)))
        (none-of (overlap-span tick v w) (not-among 61 66 input_codes refl))

pub others-kept : (tick : ℕ) (noted : Noted) (v w : View) (s t : Selected) → Kept by_input (events.other_events tick noted v w s t)
    (events.vehicle_events tick noted noted.row v w ++ events.request_events tick noted.row noted.row v w)
others-kept tick noted v w s t =
    first-alone (first-alone (first-alone (first-alone (first-alone (both (first-alone (second-alone before (kept-vehicle tick noted noted.row v w))
    (none-of (alarm-span tick v w) (not-among 83 85 input_codes refl))) (kept-request tick noted.row noted.row v w))
    (none-of (preempt-span tick v w) (not-among 105 108 input_codes refl)))
    (none-of (one-code tick codes.EXIT_BEGINS _) (not-among 111 112 input_codes refl)))
    (none-of (pattern-span tick s t) (not-among 131 150 input_codes refl)))
    (none-of (cycle-span tick v w) (not-among 150 151 input_codes refl)))
    (none-of (flash-span tick v w) (not-among 173 174 input_codes refl))
  where
    before : Kept by_input
        (events.green_events tick v w ++ events.clearing_events tick v w ++ events.pedestrian_events tick v w
        ++ events.arrow_events tick v w ++ events.call_events tick noted.form v w ++ events.overlap_events tick v w) []
    before =
        first-alone (first-alone (first-alone (first-alone (first-alone
        (none-of (green-span tick v w) (not-among 0 3 input_codes refl))
        (none-of (clearing-span tick v w) (not-among 7 13 input_codes refl)))
        (none-of (pedestrian-span tick v w) (not-among 21 24 input_codes refl)))
        (none-of (arrow-span tick v w) (not-among 32 34 input_codes refl)))
        (none-of (call-span tick noted.form v w) (not-among 43 46 input_codes refl)))
        (none-of (overlap-span tick v w) (not-among 61 66 input_codes refl))

-- ## Rows

-- a log without outputs has the inputs of vehicles
by-row : (form : LogForm) (row : Row) (v : View) → form.outputs ≡ false → vehicles_in form row v ≡ has_detector row.vehicles
by-row form row v none = λ i d. if none i then v.outputs d else has_detector row.vehicles d

or-off : (a b : Bool) → b ≡ false → (a || b) ≡ a
or-off true b off = refl
or-off false b off = off

-- where no switch is on, preempts are asked for by their inputs
by-inputs : (row : Row) (v : View) → ((n : ℕ) → v.switches n ≡ false) → requests row v ≡ has_number row.preempts
by-inputs row v off = λ i n. or-off (has_number row.preempts n) (v.switches n) (off n) i

-- the events of the inputs of a tick are those of its row
pub row-told : (tick : ℕ) (f : Found) (v w : View) → f.noted.form.outputs ≡ false → ((n : ℕ) → v.switches n ≡ false) → ((n : ℕ) → w.switches n ≡ false) →
    events.vehicle_events tick f.noted f.row v w ++ events.button_events tick f ++ events.request_events tick f.noted.row f.row v w
    ≡ events_of_row f.noted.row (record { tick = tick; row = f.row })
unfolding events_of_row
row-told tick f v w none off off_now =
    let was : vehicles_in f.noted.form f.noted.row v ≡ has_detector f.noted.row.vehicles = by-row f.noted.form f.noted.row v none in
    let now : vehicles_in f.noted.form f.row w ≡ has_detector f.row.vehicles = by-row f.noted.form f.row w none in
    let asked_was : requests f.noted.row v ≡ has_number f.noted.row.preempts = by-inputs f.noted.row v off in
    let asked : requests f.row w ≡ has_number f.row.preempts = by-inputs f.row w off_now in
    λ i. (told_detectors tick 81 (ends (was i) (now i)) ++ told_detectors tick 82 (begins (was i) (now i)))
    ++ (told tick 89 (ends (has_number f.noted.row.pedestrians) (has_number f.row.pedestrians)) ++ told tick 90 (begins (has_number f.noted.row.pedestrians) (has_number f.row.pedestrians)))
    ++ (told tick 102 (begins (asked_was i) (asked i)) ++ told tick 104 (ends (asked_was i) (asked i)))

-- those of any other input are none
other-told : (tick : ℕ) (noted : Noted) (v w : View) → noted.form.outputs ≡ false → ((n : ℕ) → v.switches n ≡ false) → ((n : ℕ) → w.switches n ≡ false) →
    events.vehicle_events tick noted noted.row v w ++ events.request_events tick noted.row noted.row v w ≡ []
other-told tick noted v w by_inputs off off_now =
    let was : vehicles_in noted.form noted.row v ≡ has_detector noted.row.vehicles = by-row noted.form noted.row v by_inputs in
    let now : vehicles_in noted.form noted.row w ≡ has_detector noted.row.vehicles = by-row noted.form noted.row w by_inputs in
    let asked_was : requests noted.row v ≡ has_number noted.row.preempts = by-inputs noted.row v off in
    let asked : requests noted.row w ≡ has_number noted.row.preempts = by-inputs noted.row w off_now in
    (λ i. (told_detectors tick 81 (ends (was i) (now i)) ++ told_detectors tick 82 (begins (was i) (now i))) ++ (told tick 102 (begins (asked_was i) (asked i)) ++ told tick 104 (ends (asked_was i) (asked i))))
    ∙ (λ i. (none.none-told_detectors tick 81 (has_detector noted.row.vehicles) i ++ none.none-told_detectors tick 82 (has_detector noted.row.vehicles) i)
    ++ (none.none-told tick 102 (has_number noted.row.preempts) i ++ none.none-told tick 104 (has_number noted.row.preempts) i))

-- the same inputs again have no event
no-change : (tick : ℕ) (row : Row) → events_of_row row (record { tick = tick; row = row }) ≡ []
unfolding events_of_row
no-change tick row =
    λ i. (none.none-told_detectors tick 81 (has_detector row.vehicles) i ++ none.none-told_detectors tick 82 (has_detector row.vehicles) i)
    ++ (none.none-told tick 89 (has_number row.pedestrians) i ++ none.none-told tick 90 (has_number row.pedestrians) i)
    ++ (none.none-told tick 102 (has_number row.preempts) i ++ none.none-told tick 104 (has_number row.preempts) i)

-- the row of the last of rows, where the first comes after this
abbrev row_after : Row → List LogRow → Row
row_after before [] = before
row_after before (row ∷ rows) = row_after row.row rows

events-append : (before : Row) (rows more : List LogRow) → events_behind before (rows ++ more) ≡ events_behind before rows ++ events_behind (row_after before rows) more
events-append before [] more = refl
events-append before (row ∷ rows) more =
    ap (λ (es : List Event). events_of_row before row ++ es) (events-append row.row rows more)
    ∙ sym (append_assoc (events_of_row before row) (events_behind row.row rows) (events_behind (row_after row.row rows) more))

row-append : (before : Row) (rows more : List LogRow) → row_after before (rows ++ more) ≡ row_after (row_after before rows) more
row-append before [] more = refl
row-append before (row ∷ rows) more = row-append row.row rows more

-- a row that changes has events, and another has none
told-if-changed : (last : Row) (tick : ℕ) (row : Row) → events_behind last (if_changed last tick row) ≡ events_of_row last (record { tick = tick; row = row })
told-if-changed last tick row = elim (cases_Bool (is_same_row last row)) [
  | inl same ↦ rw same (sym (no-change tick row) ∙ ap (λ (r : Row). events_of_row r (record { tick = tick; row = row })) (sym (same-row last row same)))
  | inr other ↦ rw other (append-nil (events_of_row last (record { tick = tick; row = row })))
]

row-if-changed : (last : Row) (tick : ℕ) (row : Row) → row_after last (if_changed last tick row) ≡ row
row-if-changed last tick row = elim (cases_Bool (is_same_row last row)) [
  | inl same ↦ rw same (same-row last row same)
  | inr other ↦ rw other refl
]

-- ## Runs

newest-row : (plan : Plan) (is : List Input) → row_after all_off (log_of plan is) ≡ last_row is
newest-row plan [] = refl
newest-row plan (inputs.Tick row ∷ is) =
    row-append all_off (log_of plan is) (if_changed (last_row is) (replay plan (inputs.Tick row ∷ is)).now row)
    ∙ ap (λ (r : Row). row_after r (if_changed (last_row is) (replay plan (inputs.Tick row ∷ is)).now row)) (newest-row plan is)
    ∙ row-if-changed (last_row is) (replay plan (inputs.Tick row ∷ is)).now row
newest-row plan (i ∷ is) = newest-row plan is

-- the switches that a log sees
switches-seen : (s : State) (n : ℕ) → (view s).switches n ≡ s.preempts.switch n
unfolding view
switches-seen s n = refl

-- at the end of a run none is on
off-there : (plan : Plan) (is : List Input) → AreSwitchesOff plan is → (n : ℕ) → (view (replay plan is)).switches n ≡ false
off-there plan [] off n = switches-seen (replay plan []) n
off-there plan (i ∷ is) off n = switches-seen (replay plan (i ∷ is)) n ∙ off.0 n

pub make-the-log : InputsMakeTheLog
unfolding events_of
make-the-log form plan [] none off = refl
make-the-log form plan (inputs.Tick row ∷ is) none off =
    filter-append is_of_input (told_along form plan is) (events_of noted (replay plan is) (inputs.Tick row))
    ∙ (λ i. make-the-log form plan is none off.1 i ++ new i)
    ∙ sym (events-append all_off (log_of plan is) (if_changed (last_row is) (replay plan (inputs.Tick row ∷ is)).now row))
  where
    s : State
    s = replay plan is

    after : State
    after = step s (inputs.Tick row)

    noted : Noted
    noted = noted_after form is

    new : filter is_of_input (events_of noted s (inputs.Tick row)) ≡ events_behind (row_after all_off (log_of plan is)) (if_changed (last_row is) after.now row)
    new =
        (ticks-kept after.now (found noted s row after) (view s) (view after)).kept
        ∙ row-told after.now (found noted s row after) (view s) (view after) none (off-there plan is off.1) (off-there plan (inputs.Tick row ∷ is) off)
        ∙ sym (told-if-changed (last_row is) after.now row)
        ∙ ap (λ (r : Row). events_behind r (if_changed (last_row is) after.now row)) (sym (newest-row plan is))
make-the-log form plan (i ∷ is) none off =
    filter-append is_of_input (told_along form plan is) (events_of noted (replay plan is) i)
    ∙ (λ j. make-the-log form plan is none off.1 j ++ none-new j) ∙ append-nil (events_of_rows (log_of plan is))
  where
    s : State
    s = replay plan is

    noted : Noted
    noted = noted_after form is

    none-new : filter is_of_input (events_of noted s i) ≡ []
    none-new =
        (others-kept (step s i).now noted (view s) (view (step s i)) (selected s) (selected (step s i))).kept
        ∙ other-told (step s i).now noted (view s) (view (step s i)) none (off-there plan is off.1) (off-there plan (i ∷ is) off)
