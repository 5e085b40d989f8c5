-- Runs with the events of their display lines and logs, and mistakes that the laws refuse, by computing. The plan is
-- that of eight phases, in which pedestrians of phase 2 are recalled; overlap 1 includes phases 1 and 2.
use Rattle.std.specs.Prelude.{◌≡◌, ◌≤◌, ◌==◌, true, false, not, List, [], ◌∷◌, filter, Some, refl}
use Rattle.tsb_step.specs.tsb_types.Events.{event}
use Rattle.tsb_step.specs.tsb_types.Intervals.{is_green}
use Rattle.tsb_step.specs.tsb_types.Sets.{all_off, has_detector}
use Rattle.tsb_step.specs.tsb_types.declared.event.Event.{Event}
use Rattle.tsb_step.specs.tsb_types.declared.lamp.Lamp.TheVariants as lamps
use Rattle.tsb_step.specs.tsb_types.declared.lamp.SignalColor.TheVariants as colours
use Rattle.tsb_step.specs.tsb_plan.declared.object.Object.TheVariants.{PhaseEnabled, VehicleDetectorDelay}
use Rattle.tsb_step.specs.tsb_plan.Plan.{Plan, empty, with_values}
use Rattle.tsb_step.specs.declared.inputs.Input.{Input}
use Rattle.tsb_step.specs.declared.inputs.Input.TheVariants.{Fault, Switch, Tick}
use Rattle.tsb_step.specs.declared.log_form.LogForm.{LogForm}
use Rattle.tsb_step.specs.Events as events
use Rattle.tsb_step.specs.declared.log_form.Noted.{Noted}
use Rattle.tsb_step.specs.Events.{events_of, selected, usual_after, view}
use Rattle.tsb_step.specs.Laws.{IsConsistent}
use Rattle.tsb_step.specs.Runs.{replay, AreTaken}
use Rattle.tsb_step.specs.State.{State, interval, start}
use Rattle.tsb_step.proofs.Examples.Scenes as scenes
use Rattle.tsb_step.proofs.Examples.Scenes.{preempt, vehicle}
use Rattle.tsb_text.specs.tsb_display_text.Line.{line_of}
use Rattle.tsb_field_display.specs.Events as lines
use Rattle.tsb_field_display.specs.ReadBack.{Lit, lit_after, read_back, says_at}
use Rattle.tsb_field_display.specs.Inputs.{events_of_row}
use Rattle.tsb_field_display.specs.SessionLaws.{is_of_input}
use Rattle.tsb_text.specs.kept.Kept.{last_row}
use Rattle.tsb_text.specs.recording.Along.{told_along}
use Rattle.tsb_laws.specs.Told.{AreSwitchesOff, is_of_line, log_of, says_vehicle, shown_in, signals}
use Rattle.tsb_laws.proofs.safety.Examples.CrossingRuns.{known, quick, walked}

-- what a computed line opens
unfoldable pub opened : Unit {0}
unfolding scenes.opened events_of selected view quick line_of lines.events_of events_of_row
opened = scenes.opened

-- a log of the usual form, with no input on in the newest tick
abbrev usual : Noted
usual = usual_after all_off

-- ## From power-up to the first tick, and to a fault that trips the controller

abbrev at_power_up : List Event
at_power_up = event 1 1 2 ∷ event 1 1 6 ∷ event 1 21 2 ∷ event 1 61 1 ∷ []

power_up_lines : lines.events_of (signals false (start quick)) (shown_in false (replay quick walked)) ≡ at_power_up
unfolding opened
power_up_lines = refl

power_up_told : filter (is_of_line false) (events_of usual (start quick) (Tick all_off)) ≡ at_power_up
unfolding opened
power_up_told = refl

-- a green lamp of phase 4, which is not concurrent with 2
abbrev fault : Input
fault = Fault (Some (lamps.Phase 4 colours.Green))

abbrev tripped : State
tripped = replay quick (fault ∷ walked)

taken : AreTaken quick (fault ∷ walked)
unfolding opened
taken = ((tt, refl), refl)

-- all that the laws ask for
record Meets (plan : Plan) (is : List Input) : Type 0 where
  consistent : IsConsistent plan
  few : plan.phase_count ≤ 16
  taken : AreTaken plan is

a_trip : Meets quick (fault ∷ walked)
a_trip = record { consistent = known.consistent; few = known.few; taken = taken }

abbrev at_trip : List Event
at_trip = event 1 7 2 ∷ event 1 7 6 ∷ event 1 23 2 ∷ event 1 64 1 ∷ event 1 173 6 ∷ []

trip_lines : lines.events_of (signals false (replay quick walked)) (shown_in false tripped) ≡ at_trip
unfolding opened
trip_lines = refl

trip_told : filter (is_of_line false) (events_of usual (replay quick walked) fault) ≡ at_trip
unfolding opened
trip_told = refl

-- the tick of the line before
reads_1 : (shown_in false (replay quick walked)).tick ≡ 1
unfolding opened
reads_1 = refl

would_read_0 : (shown_in false (start quick)).tick ≡ 0
unfolding opened
would_read_0 = refl

-- heads by the intervals of their phases
still_green : is_green (interval tripped 2) ≡ true
unfolding opened
still_green = refl

shows_none : lines.is_green (signals false tripped) 2 ≡ false
unfolding opened
shows_none = refl

-- a plan whose only phase is 17, in flash: no head of a display line flashes
abbrev far : Plan
far = with_values (record empty { phase_count = 17 }) ((PhaseEnabled, 17, 1) ∷ [])

abbrev flashing_17 : State
flashing_17 = record (start far) { trip = tripped.trip }

in_flash : (view flashing_17).flashes ≡ true
unfolding opened
in_flash = refl

out_of_sight : lines.is_in_flash (signals false flashing_17) ≡ false
unfolding opened
out_of_sight = refl

-- ## Heads given back

abbrev lit : Lit
lit = read_back (told_along events.usual quick walked)

pub record ToldBack : Type 0 where
  pub green : lit.green 2 ≡ true
  pub red : lit.green 4 ≡ false
  pub walk : lit.walk 2 ≡ true
  pub overlap : lit.overlap_green 1 ≡ true
  pub steady : lit.flash ≡ false

told_back : ToldBack
unfolding opened
told_back = record { green = refl; red = refl; walk = refl; overlap = refl; steady = refl }

-- ## A vehicle for phase 3 in two ticks, and in the next no more

abbrev passed : List Input
passed = Tick all_off ∷ Tick (vehicle 3) ∷ Tick (vehicle 3) ∷ []

two_rows : log_of quick passed ≡ record { tick = 1; row = vehicle 3 } ∷ record { tick = 3; row = all_off } ∷ []
unfolding opened
two_rows = refl

two_told : filter is_of_input (told_along events.usual quick passed) ≡ event 1 82 3 ∷ event 3 81 3 ∷ []
unfolding opened
two_told = refl

-- no switch of a preempt is on in it
no_switch : AreSwitchesOff quick passed
unfolding opened
no_switch = ((λ n. refl), ((λ n. refl), ((λ n. refl), tt)))

-- where preempt 1 is switched on, and its input comes after, it is asked for once; no row of the log asks for it at first
abbrev switched : List Input
switched = Tick (preempt 1) ∷ Switch 1 true ∷ Tick all_off ∷ []

switched_told : filter is_of_input (told_along events.usual quick switched) ≡ event 1 102 1 ∷ []
unfolding opened
switched_told = refl

-- a detector with a delay: in a log of outputs it has not come on when its input goes off
abbrev outputs : LogForm
outputs = record { recalls = false; outputs = true }

abbrev delaying : Plan
delaying = with_values quick ((VehicleDetectorDelay, 3, 50) ∷ [])

by_output : filter is_of_input (told_along outputs delaying passed) ≡ []
unfolding opened
by_output = refl

-- events of inputs against all off
goes_on : filter is_of_input (events_of (usual_after (vehicle 3)) (replay quick (Tick (vehicle 3) ∷ [])) (Tick (vehicle 3))) ≡ []
unfolding opened
goes_on = refl

would_come_again : filter is_of_input (events_of usual (replay quick (Tick (vehicle 3) ∷ [])) (Tick (vehicle 3))) ≡ event 2 82 3 ∷ []
unfolding opened
would_come_again = refl

-- an input that goes off has no event
stays_on : lit_after (says_at says_vehicle 3) false (filter (λ e. not (e.code == 81)) (told_along events.usual quick passed)) ≡ true
unfolding opened
stays_on = refl

is_off : has_detector (last_row passed).vehicles 3 ≡ false
unfolding opened
is_off = refl
