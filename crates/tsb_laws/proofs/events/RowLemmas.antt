-- The events of a run show which detectors and requests of preempts are on at its end.
use Rattle.std.proofs.Common.{◌≡◌, ◌∙◌, ℕ, ◌≤◌, Bool, true, false, not, ◌&&◌, ◌||◌, List, [], ◌∷◌, ◌++◌, filter, Option, None, if◌then◌else◌, refl, sym, ap}
use Rattle.tsb_step.specs.tsb_types.Events.{begins, detectors_with, ends, numbers_with, told}
use Rattle.tsb_step.specs.tsb_types.Sets.{all_off, has_detector, has_number}
use Rattle.tsb_step.specs.tsb_types.declared.event.Event.{Event}
use Rattle.tsb_step.specs.tsb_types.declared.limits.TheConstants.{VEHICLE_DETECTORS}
use Rattle.tsb_step.specs.tsb_types.declared.row.Row.{Row}
use Rattle.tsb_step.proofs.tsb_types.SetLemmas.{names-zero}
use Rattle.tsb_step.specs.tsb_plan.Plan.{Plan}
use Rattle.tsb_step.specs.declared.inputs.Input.{Input}
use Rattle.tsb_step.specs.declared.inputs.Input.TheVariants as inputs
use Rattle.tsb_step.specs.declared.log_form.LogForm.{LogForm}
use Rattle.tsb_step.specs.Events as events
use Rattle.tsb_step.specs.declared.log_form.Noted.{Noted}
use Rattle.tsb_step.specs.Events.{View, events_of, found, requests, selected, vehicles_in, view}
use Rattle.tsb_step.specs.Runs.{replay}
use Rattle.tsb_step.specs.State.{State, start}
use Rattle.tsb_step.specs.Step.{step}
use Rattle.tsb_field_display.specs.ReadBack.{lit_after, says_at}
use Rattle.tsb_field_display.proofs.LawLemmas.{Leads, after, begun-or-ended, effect, is_lit_of, leads-detectors, leads-quiet, leads-told, lit-append}
use Rattle.tsb_text.specs.kept.Kept.{last_row}
use Rattle.tsb_text.specs.recording.Along.{noted_after, told_along}
use Rattle.tsb_laws.specs.Told.{RunsTellTheInputs, says_pedestrian, says_preempt, says_vehicle}
use Rattle.tsb_laws.proofs.events.InputLemmas.{by_input, others-kept, ticks-kept}
use Rattle.tsb_laws.proofs.events.SayLemmas.{at-head, differs, silent}

-- ## What the events of inputs say

-- of vehicles, of requests of preempts
abbrev vehicle_part : ℕ → Noted → Row → View → View → List Event
vehicle_part = events.vehicle_events

abbrev request_part : ℕ → Row → Row → View → View → List Event
request_part = events.request_events

-- of buttons, by the rows of two ticks
abbrev button_part : ℕ → Row → Row → List Event
button_part tick last row =
    told tick 89 (ends (has_number last.pedestrians) (has_number row.pedestrians)) ++ told tick 90 (begins (has_number last.pedestrians) (has_number row.pedestrians))

-- what codes make of it, those of vehicles first
abbrev by_vehicles : (ℕ → Option Bool) → ℕ → Noted → Row → View → View → Bool → Bool
by_vehicles by_code d noted row v w lit =
    effect (by_code 82) (begins (vehicles_in noted.form noted.row v) (vehicles_in noted.form row w) d)
    (effect (by_code 81) (ends (vehicles_in noted.form noted.row v) (vehicles_in noted.form row w) d) lit)

abbrev by_buttons : (ℕ → Option Bool) → ℕ → Row → Row → Bool → Bool
by_buttons by_code d last row lit =
    effect (by_code 90) (begins (has_number last.pedestrians) (has_number row.pedestrians) d)
    (effect (by_code 89) (ends (has_number last.pedestrians) (has_number row.pedestrians) d) lit)

abbrev by_requests : (ℕ → Option Bool) → ℕ → Row → Row → View → View → Bool → Bool
by_requests by_code d last row v w lit =
    effect (by_code 104) (ends (requests last v) (requests row w) d) (effect (by_code 102) (begins (requests last v) (requests row w) d) lit)

vehicles-say : (by_code : ℕ → Option Bool) (d tick : ℕ) (noted : Noted) (row : Row) (v w : View) (lit : Bool) → 1 ≤ d → d ≤ VEHICLE_DETECTORS →
    Leads (says_at by_code d) lit (vehicle_part tick noted row v w) (by_vehicles by_code d noted row v w lit)
vehicles-say by_code d tick noted row v w lit from within =
    after (leads-detectors by_code d lit tick 81 (ends (vehicles_in noted.form noted.row v) (vehicles_in noted.form row w)) from within)
    (leads-detectors by_code d _ tick 82 (begins (vehicles_in noted.form noted.row v) (vehicles_in noted.form row w)) from within)

vehicles-quiet : (by_code : ℕ → Option Bool) (d tick : ℕ) (noted : Noted) (row : Row) (v w : View) (lit : Bool) → by_code 81 ≡ None → by_code 82 ≡ None →
    Leads (says_at by_code d) lit (vehicle_part tick noted row v w) lit
vehicles-quiet by_code d tick noted row v w lit off on =
    after (leads-quiet by_code d lit tick 81 (detectors_with (ends (vehicles_in noted.form noted.row v) (vehicles_in noted.form row w))) off)
    (leads-quiet by_code d lit tick 82 (detectors_with (begins (vehicles_in noted.form noted.row v) (vehicles_in noted.form row w))) on)

buttons-say : (by_code : ℕ → Option Bool) (d tick : ℕ) (last row : Row) (lit : Bool) → 1 ≤ d → d ≤ 16 →
    Leads (says_at by_code d) lit (button_part tick last row) (by_buttons by_code d last row lit)
buttons-say by_code d tick last row lit from within =
    after (leads-told by_code d lit tick 89 (ends (has_number last.pedestrians) (has_number row.pedestrians)) from within)
    (leads-told by_code d _ tick 90 (begins (has_number last.pedestrians) (has_number row.pedestrians)) from within)

buttons-quiet : (by_code : ℕ → Option Bool) (d tick : ℕ) (last row : Row) (lit : Bool) → by_code 89 ≡ None → by_code 90 ≡ None →
    Leads (says_at by_code d) lit (button_part tick last row) lit
buttons-quiet by_code d tick last row lit off on =
    after (leads-quiet by_code d lit tick 89 (numbers_with (ends (has_number last.pedestrians) (has_number row.pedestrians))) off)
    (leads-quiet by_code d lit tick 90 (numbers_with (begins (has_number last.pedestrians) (has_number row.pedestrians))) on)

requests-say : (by_code : ℕ → Option Bool) (d tick : ℕ) (last row : Row) (v w : View) (lit : Bool) → 1 ≤ d → d ≤ 16 →
    Leads (says_at by_code d) lit (request_part tick last row v w) (by_requests by_code d last row v w lit)
requests-say by_code d tick last row v w lit from within =
    after (leads-told by_code d lit tick 102 (begins (requests last v) (requests row w)) from within)
    (leads-told by_code d _ tick 104 (ends (requests last v) (requests row w)) from within)

requests-quiet : (by_code : ℕ → Option Bool) (d tick : ℕ) (last row : Row) (v w : View) (lit : Bool) → by_code 102 ≡ None → by_code 104 ≡ None →
    Leads (says_at by_code d) lit (request_part tick last row v w) lit
requests-quiet by_code d tick last row v w lit on off =
    after (leads-quiet by_code d lit tick 102 (numbers_with (begins (requests last v) (requests row w))) on)
    (leads-quiet by_code d lit tick 104 (numbers_with (ends (requests last v) (requests row w))) off)

ended-or-begun : (was now : Bool) → (if now && not was then true else (if was && not now then false else was)) ≡ now
ended-or-begun true true = refl
ended-or-begun true false = refl
ended-or-begun false true = refl
ended-or-begun false false = refl

none-vehicle : (c : ℕ) → by_input c ≡ false → says_vehicle c ≡ None
none-vehicle c h = rw (differs by_input c 82 h refl, differs by_input c 81 h refl) refl

none-pedestrian : (c : ℕ) → by_input c ≡ false → says_pedestrian c ≡ None
none-pedestrian c h = rw (differs by_input c 90 h refl, differs by_input c 89 h refl) refl

none-preempt : (c : ℕ) → by_input c ≡ false → says_preempt c ≡ None
none-preempt c h = rw (differs by_input c 102 h refl, differs by_input c 104 h refl) refl

-- ## Runs

-- what holds of something that these codes speak of, and that is on with a row at a state as this says, in a log of
-- this form
record Follows (form : LogForm) (by_code : ℕ → Option Bool) (d : ℕ) (is_on : Row → State → Bool) : Type 0 where
  others : (c : ℕ) → by_input c ≡ false → by_code c ≡ None
  off : (plan : Plan) → is_on all_off (start plan) ≡ false
  tick : (n : ℕ) (last row : Row) (s t : State) →
      lit_after (says_at by_code d) (is_on last s)
      (vehicle_part n (record { form = form; row = last }) row (view s) (view t) ++ button_part n last row ++ request_part n last row (view s) (view t))
      ≡ is_on row t
  other : (n : ℕ) (row : Row) (s t : State) →
      lit_after (says_at by_code d) (is_on row s) (vehicle_part n (record { form = form; row = row }) row (view s) (view t) ++ request_part n row row (view s) (view t))
      ≡ is_on row t

-- the events of one input
tick-says : (form : LogForm) (by_code : ℕ → Option Bool) (d : ℕ) (is_on : Row → State → Bool) → Follows form by_code d is_on → (last row : Row) (s : State) →
    lit_after (says_at by_code d) (is_on last s) (events_of (record { form = form; row = last }) s (inputs.Tick row)) ≡ is_on row (step s (inputs.Tick row))
unfolding events_of
tick-says form by_code d is_on f last row s =
    let new : State = step s (inputs.Tick row) in
    let noted : Noted = record { form = form; row = last } in
    sym (silent by_input (says_at by_code d) (is_on last s) (events_of noted s (inputs.Tick row)) (at-head by_input by_code d f.others))
    ∙ ap (lit_after (says_at by_code d) (is_on last s)) (ticks-kept new.now (found noted s row new) (view s) (view new)).kept
    ∙ f.tick new.now last row s new

run-says : (form : LogForm) (by_code : ℕ → Option Bool) (d : ℕ) (is_on : Row → State → Bool) → Follows form by_code d is_on → (plan : Plan) (is : List Input) →
    lit_after (says_at by_code d) false (told_along form plan is) ≡ is_on (last_row is) (replay plan is)
unfolding events_of
run-says form by_code d is_on f plan [] = sym (f.off plan)
run-says form by_code d is_on f plan (inputs.Tick row ∷ is) =
    lit-append (says_at by_code d) false (told_along form plan is) (events_of (noted_after form is) (replay plan is) (inputs.Tick row))
    ∙ ap (λ (b : Bool). lit_after (says_at by_code d) b (events_of (noted_after form is) (replay plan is) (inputs.Tick row))) (run-says form by_code d is_on f plan is)
    ∙ tick-says form by_code d is_on f (last_row is) row (replay plan is)
run-says form by_code d is_on f plan (i ∷ is) =
    lit-append (says_at by_code d) false (told_along form plan is) (events_of (noted_after form is) (replay plan is) i)
    ∙ ap (λ (b : Bool). lit_after (says_at by_code d) b (events_of (noted_after form is) (replay plan is) i)) (run-says form by_code d is_on f plan is)
    ∙ sym (silent by_input (says_at by_code d) (is_on (last_row is) s) (events_of (noted_after form is) s i) (at-head by_input by_code d f.others))
    ∙ ap (lit_after (says_at by_code d) (is_on (last_row is) s)) kept
    ∙ f.other (step s i).now (last_row is) s (step s i)
  where
    s : State
    s = replay plan is

    kept : filter (λ e. by_input e.code) (events_of (noted_after form is) s i)
        ≡ vehicle_part (step s i).now (noted_after form is) (last_row is) (view s) (view (step s i)) ++ request_part (step s i).now (last_row is) (last_row is) (view s) (view (step s i))
    kept = (others-kept (step s i).now (noted_after form is) (view s) (view (step s i)) (selected s) (selected (step s i))).kept

-- ## At power-up

none-or : (b : Bool) (a : Bool) → a ≡ false → (if b then false else a) ≡ false
none-or true a off = refl
none-or false a off = off

vehicles-off : (form : LogForm) (d : ℕ) (plan : Plan) → vehicles_in form all_off (view (start plan)) d ≡ false
unfolding view
vehicles-off form d plan = none-or form.outputs (has_detector all_off.vehicles d) (names-zero d)

requests-off : (n : ℕ) (plan : Plan) → requests all_off (view (start plan)) n ≡ false
unfolding view
requests-off n plan = ap (λ (b : Bool). b || false) (names-zero n)

-- ## What the events of runs show

pub tell-the-inputs : RunsTellTheInputs
tell-the-inputs form plan is = record {
  vehicles = λ d from within. run-says form says_vehicle d (λ row s. vehicles_in form row (view s) d) (record {
    others = none-vehicle;
    off = vehicles-off form d;
    tick = λ n last row s t. is_lit_of (
        after (after (vehicles-say says_vehicle d n (record { form = form; row = last }) row (view s) (view t) (vehicles_in form last (view s) d) from within)
        (buttons-quiet says_vehicle d n last row _ refl refl)) (requests-quiet says_vehicle d n last row (view s) (view t) _ refl refl))
        ∙ ended-or-begun (vehicles_in form last (view s) d) (vehicles_in form row (view t) d);
    other = λ n row s t. is_lit_of (
        after (vehicles-say says_vehicle d n (record { form = form; row = row }) row (view s) (view t) (vehicles_in form row (view s) d) from within)
        (requests-quiet says_vehicle d n row row (view s) (view t) _ refl refl))
        ∙ ended-or-begun (vehicles_in form row (view s) d) (vehicles_in form row (view t) d);
  }) plan is;
  pedestrians = λ d from within. run-says form says_pedestrian d (λ row s. has_number row.pedestrians d) (record {
    others = none-pedestrian;
    off = λ plan. names-zero d;
    tick = λ n last row s t. is_lit_of (
        after (after (vehicles-quiet says_pedestrian d n (record { form = form; row = last }) row (view s) (view t) (has_number last.pedestrians d) refl refl)
        (buttons-say says_pedestrian d n last row _ from within)) (requests-quiet says_pedestrian d n last row (view s) (view t) _ refl refl))
        ∙ ended-or-begun (has_number last.pedestrians d) (has_number row.pedestrians d);
    other = λ n row s t. is_lit_of (
        after (vehicles-quiet says_pedestrian d n (record { form = form; row = row }) row (view s) (view t) (has_number row.pedestrians d) refl refl)
        (requests-quiet says_pedestrian d n row row (view s) (view t) _ refl refl));
  }) plan is;
  preempts = λ n from within. run-says form says_preempt n (λ row s. requests row (view s) n) (record {
    others = none-preempt;
    off = requests-off n;
    tick = λ k last row s t. is_lit_of (
        after (after (vehicles-quiet says_preempt n k (record { form = form; row = last }) row (view s) (view t) (requests last (view s) n) refl refl)
        (buttons-quiet says_preempt n k last row _ refl refl)) (requests-say says_preempt n k last row (view s) (view t) _ from within))
        ∙ begun-or-ended (requests last (view s) n) (requests row (view t) n);
    other = λ k row s t. is_lit_of (
        after (vehicles-quiet says_preempt n k (record { form = form; row = row }) row (view s) (view t) (requests row (view s) n) refl refl)
        (requests-say says_preempt n k row row (view s) (view t) _ from within))
        ∙ begun-or-ended (requests row (view s) n) (requests row (view t) n);
  }) plan is;
}
