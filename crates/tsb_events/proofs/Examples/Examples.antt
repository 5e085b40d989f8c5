-- What the definition gives, by computing: each code of the table in a change of its own.
use Rattle.std.specs.Prelude.{◌≡◌, ℕ, ◌==◌, Bool, true, false, [], ◌∷◌, Some, None, if◌then◌else◌, refl}
use Rattle.tsb_types.specs.Events.{event}
use Rattle.tsb_types.specs.Lists.{run_from}
use Rattle.tsb_types.specs.Sets.{all_off, set_of_detectors, set_of_list}
use Rattle.tsb_types.specs.declared.row.Row.{Row}
use Rattle.tsb_step.specs.declared.log_form.Noted.{Noted}
use Rattle.tsb_step.specs.tsb_coord.declared.cycle.CycleState.TheVariants as cycles
use Rattle.tsb_step.specs.Events as events

-- what a computed line opens
unfoldable pub opened : Unit {0}
unfolding run_from
opened = tt

-- no number, and one number alone
abbrev pub none : ℕ → Bool
none n = false

abbrev pub only : ℕ → ℕ → Bool
only m n = m == n

-- inputs by the lists that name them: vehicles, pedestrians, preempts
abbrev inputs : ℕ → ℕ → ℕ → Row
inputs v w p = record { vehicles = set_of_detectors v; pedestrians = set_of_list w; preempts = set_of_list p }

-- nothing is lit, called or in service
abbrev pub dark : events.View
dark = record {
  greens = none;
  yellows = none;
  red_clearances = none;
  red_timings = none;
  conflicts = none;
  walks = none;
  clearances = none;
  vehicle_calls = none;
  pedestrian_calls = none;
  recalls = none;
  pedestrian_recalls = none;
  overlap_greens = none;
  overlap_trails = none;
  overlap_yellows = none;
  overlap_arrows = none;
  overlaps_off = none;
  outputs = none;
  alarms = none;
  switches = none;
  preempts = none;
  tracks = none;
  dwells = none;
  exits = none;
  is_preempted = false;
  stage_is_green = false;
  cycle = cycles.Free;
  crosses = false;
  side = 1;
  flashes = false;
}

-- a log of the usual form, after a tick with no input on
abbrev pub usual : Noted
usual = record { form = record { recalls = false; outputs = false }; row = all_off }

-- one that has recalls, and one that has outputs
abbrev with_recalls : Noted
with_recalls = record { form = record { recalls = true; outputs = false }; row = all_off }

abbrev with_outputs : Noted
with_outputs = record { form = record { recalls = false; outputs = true }; row = all_off }

-- a tick that finds nothing
abbrev pub quiet : events.Found
quiet = record { minimum = none; gap = none; maximum = none; force_off = none; noted = usual; row = all_off; zero = false; yields = none; served = false }

-- free operation, and a pattern of 90 seconds with splits for phases 1 and 16
abbrev pub free : events.Selected
free = record { pattern = None; cycle = 0; offset = 0; split = λ p. 0 }

abbrev pub pattern_2 : events.Selected
pattern_2 = record { pattern = Some 2; cycle = 90; offset = 10; split = λ p. if p == 1 then 30 else (if p == 16 then 25 else 0) }

-- nothing differs
quiet_tick : events.tick_events 9 quiet (record dark { greens = only 2 }) (record dark { greens = only 2 }) ≡ []
unfolding opened
quiet_tick = refl

-- phase 2 turns Green
green_begins : events.tick_events 9 quiet (record dark { yellows = only 6 }) (record dark { greens = only 2; yellows = only 6 }) ≡ event 9 0 2 ∷ event 9 1 2 ∷ []
unfolding opened
green_begins = refl

-- its maximum begins to time
conflict_begins : events.tick_events 9 quiet (record dark { greens = only 2 }) (record dark { greens = only 2; conflicts = only 2 }) ≡ event 9 2 2 ∷ []
unfolding opened
conflict_begins = refl

-- its minimum green is complete, and it may end at once
minimum : events.tick_events 9 (record quiet { minimum = only 2 }) (record dark { greens = only 2 }) (record dark { greens = only 2 }) ≡ event 9 3 2 ∷ []
unfolding opened
minimum = refl

minimum_and_gap : events.tick_events 9 (record quiet { minimum = only 2; gap = only 2 }) (record dark { greens = only 2 }) (record dark { yellows = only 2 })
    ≡ event 9 3 2 ∷ event 9 4 2 ∷ event 9 7 2 ∷ event 9 8 2 ∷ []
unfolding opened
minimum_and_gap = refl

-- it ends by gap, by maximum, by force-off; the cause comes before the end
gap_out : events.tick_events 9 (record quiet { gap = only 2 }) (record dark { greens = only 2 }) (record dark { yellows = only 2 }) ≡ event 9 4 2 ∷ event 9 7 2 ∷ event 9 8 2 ∷ []
unfolding opened
gap_out = refl

max_out : events.tick_events 9 (record quiet { maximum = only 2 }) (record dark { greens = only 2 }) (record dark { yellows = only 2 }) ≡ event 9 5 2 ∷ event 9 7 2 ∷ event 9 8 2 ∷ []
unfolding opened
max_out = refl

force_off : events.tick_events 9 (record quiet { force_off = only 2 }) (record dark { greens = only 2 }) (record dark { yellows = only 2 }) ≡ event 9 6 2 ∷ event 9 7 2 ∷ event 9 8 2 ∷ []
unfolding opened
force_off = refl

-- a preempt ends it: no cause is given
preempted : events.tick_events 9 quiet (record dark { greens = only 2 }) (record dark { yellows = only 2 }) ≡ event 9 7 2 ∷ event 9 8 2 ∷ []
unfolding opened
preempted = refl

-- yellow, red clearance, and out of service
abbrev red_timing : events.View
red_timing = record dark { red_clearances = only 2; red_timings = only 2 }

red_clearance : events.tick_events 9 quiet (record dark { yellows = only 2 }) red_timing ≡ event 9 9 2 ∷ event 9 10 2 ∷ []
unfolding opened
red_clearance = refl

over : events.tick_events 9 quiet red_timing dark ≡ event 9 11 2 ∷ event 9 12 2 ∷ []
unfolding opened
over = refl

-- where it waits for the other ring, its time ends first
time_ends : events.tick_events 9 quiet red_timing (record dark { red_clearances = only 2 }) ≡ event 9 11 2 ∷ []
unfolding opened
time_ends = refl

waits_no_more : events.tick_events 9 quiet (record dark { red_clearances = only 2 }) dark ≡ event 9 12 2 ∷ []
unfolding opened
waits_no_more = refl

-- where it waits, and the plan gives it no time
no_time : events.tick_events 9 quiet (record dark { yellows = only 2 }) (record dark { red_clearances = only 2 }) ≡ event 9 9 2 ∷ event 9 10 2 ∷ event 9 11 2 ∷ []
unfolding opened
no_time = refl

-- where the plan gives no red clearance
no_red_clearance : events.tick_events 9 quiet (record dark { yellows = only 2 }) dark ≡ event 9 9 2 ∷ event 9 12 2 ∷ []
unfolding opened
no_red_clearance = refl

-- walk, clearance, and neither; from walk to neither
walk : events.tick_events 9 quiet dark (record dark { walks = only 2 }) ≡ event 9 21 2 ∷ []
unfolding opened
walk = refl

clearance : events.tick_events 9 quiet (record dark { walks = only 2 }) (record dark { clearances = only 2 }) ≡ event 9 22 2 ∷ []
unfolding opened
clearance = refl

dont_walk : events.tick_events 9 quiet (record dark { clearances = only 2 }) dark ≡ event 9 23 2 ∷ []
unfolding opened
dont_walk = refl

walk_ends : events.tick_events 9 quiet (record dark { walks = only 2 }) dark ≡ event 9 23 2 ∷ []
unfolding opened
walk_ends = refl

-- a crossing is completed, to side 2
crossing : events.tick_events 9 quiet (record dark { crosses = true }) (record dark { side = 2 }) ≡ event 9 31 2 ∷ []
unfolding opened
crossing = refl

-- calls come, and the vehicle call goes
calls : events.tick_events 9 quiet (record dark { vehicle_calls = only 3 }) (record dark { vehicle_calls = only 4; pedestrian_calls = only 8 }) ≡ event 9 43 4 ∷ event 9 44 3 ∷ event 9 45 8 ∷ []
unfolding opened
calls = refl

-- those of phases on recall do not, but in a log that has recalls
abbrev recalled : events.View
recalled = record dark { vehicle_calls = only 4; pedestrian_calls = only 8; recalls = only 4; pedestrian_recalls = only 8 }

recalls : events.tick_events 9 quiet dark recalled ≡ []
unfolding opened
recalls = refl

with_recalls_too : events.tick_events 9 (record quiet { noted = with_recalls }) dark recalled ≡ event 9 43 4 ∷ event 9 45 8 ∷ []
unfolding opened
with_recalls_too = refl

-- a standing call comes where its phase is recalled no more
recalled_no_more : events.other_events 9 usual recalled (record recalled { recalls = none }) free free ≡ event 9 43 4 ∷ []
unfolding opened
recalled_no_more = refl

-- overlap 1: green, yellow, red; off where no phase serves it
overlap_green : events.tick_events 9 quiet dark (record dark { overlap_greens = only 1 }) ≡ event 9 61 1 ∷ []
unfolding opened
overlap_green = refl

overlap_yellow : events.tick_events 9 quiet (record dark { overlap_greens = only 1 }) (record dark { overlap_yellows = only 1 }) ≡ event 9 63 1 ∷ []
unfolding opened
overlap_yellow = refl

overlap_red : events.tick_events 9 quiet (record dark { overlap_yellows = only 1 }) dark ≡ event 9 64 1 ∷ []
unfolding opened
overlap_red = refl

overlap_off : events.tick_events 9 quiet (record dark { overlap_yellows = only 1 }) (record dark { overlaps_off = only 1 }) ≡ event 9 64 1 ∷ event 9 65 1 ∷ []
unfolding opened
overlap_off = refl

-- arrow 2 begins to flash, and has its yellow then; overlap 3 stays green after its phases
arrow_flashes : events.tick_events 9 quiet dark (record dark { overlap_arrows = only 2 }) ≡ event 9 32 2 ∷ []
unfolding opened
arrow_flashes = refl

arrow_clears : events.tick_events 9 quiet (record dark { overlap_arrows = only 2 }) (record dark { overlap_yellows = only 2 }) ≡ event 9 33 2 ∷ event 9 63 2 ∷ []
unfolding opened
arrow_clears = refl

overlap_trails : events.tick_events 9 quiet (record dark { overlap_greens = only 3 }) (record dark { overlap_greens = only 3; overlap_trails = only 3 }) ≡ event 9 62 3 ∷ []
unfolding opened
overlap_trails = refl

-- inputs of the row go off and on
inputs_change : events.tick_events 9 (record quiet { noted = record usual { row = inputs 1 2 1 }; row = inputs 32768 128 8 }) dark dark ≡ event 9 81 1 ∷ event 9 82 16 ∷ event 9 89 2 ∷ event 9 90 8 ∷ event 9 102 4 ∷ event 9 104 1 ∷ []
unfolding opened
inputs_change = refl

-- in a log that has outputs vehicle detectors go off and on by these, in a reset as well
outputs_change : events.tick_events 9 (record quiet { noted = with_outputs; row = inputs 1 2 1 }) (record dark { outputs = only 3 }) (record dark { outputs = only 5 })
    ≡ event 9 81 3 ∷ event 9 82 5 ∷ event 9 90 2 ∷ event 9 102 1 ∷ []
unfolding opened
outputs_change = refl

outputs_go : events.other_events 9 with_outputs (record dark { outputs = only 3 }) dark free free ≡ event 9 81 3 ∷ []
unfolding opened
outputs_go = refl

-- a switch asks for a preempt, unless its input does already; so it does as long as one of them is on
switch : events.other_events 9 usual dark (record dark { switches = only 2 }) free free ≡ event 9 102 2 ∷ []
unfolding opened
switch = refl

switch_too : events.other_events 9 (record usual { row = inputs 0 0 2 }) dark (record dark { switches = only 2 }) free free ≡ []
unfolding opened
switch_too = refl

input_goes : events.tick_events 9 (record quiet { noted = record usual { row = inputs 0 0 2 } }) (record dark { switches = only 2 }) (record dark { switches = only 2 }) ≡ []
unfolding opened
input_goes = refl

-- alarms go and come
alarms : events.tick_events 9 quiet (record dark { alarms = only 5 }) (record dark { alarms = only 16 }) ≡ event 9 83 5 ∷ event 9 84 16 ∷ []
unfolding opened
alarms = refl

-- preempt 1 enters service, in its track stage; its track greens are all there; its dwell comes, its dwell greens
abbrev track_stage : events.View
track_stage = record dark { preempts = only 1; is_preempted = true; tracks = only 1 }

abbrev dwell_stage : events.View
dwell_stage = record dark { preempts = only 1; is_preempted = true; dwells = only 1 }

abbrev exit_stage : events.View
exit_stage = record dark { preempts = only 1; is_preempted = true; exits = only 1 }

enters : events.tick_events 9 quiet dark track_stage ≡ event 9 105 1 ∷ []
unfolding opened
enters = refl

track : events.tick_events 9 quiet track_stage (record track_stage { stage_is_green = true }) ≡ event 9 106 1 ∷ []
unfolding opened
track = refl

track_at_once : events.tick_events 9 quiet dark (record track_stage { stage_is_green = true }) ≡ event 9 105 1 ∷ event 9 106 1 ∷ []
unfolding opened
track_at_once = refl

dwell_comes : events.tick_events 9 quiet (record track_stage { stage_is_green = true }) dwell_stage ≡ []
unfolding opened
dwell_comes = refl

dwell : events.tick_events 9 quiet dwell_stage (record dwell_stage { stage_is_green = true }) ≡ event 9 107 1 ∷ []
unfolding opened
dwell = refl

-- from all track greens to all dwell greens, where they are the same
dwell_at_once : events.tick_events 9 quiet (record track_stage { stage_is_green = true }) (record dwell_stage { stage_is_green = true }) ≡ event 9 107 1 ∷ []
unfolding opened
dwell_at_once = refl

exit : events.tick_events 9 quiet exit_stage (record exit_stage { stage_is_green = true }) ≡ event 9 111 1 ∷ []
unfolding opened
exit = refl

-- a dwell that ends unserved ends by the maximum presence, with an exit or without, and whether its greens were all there
-- or not
presence : events.tick_events 9 quiet dwell_stage exit_stage ≡ event 9 110 1 ∷ []
unfolding opened
presence = refl

presence_and_exit : events.tick_events 9 quiet (record dwell_stage { stage_is_green = true }) (record exit_stage { stage_is_green = true })
    ≡ event 9 110 1 ∷ event 9 111 1 ∷ []
unfolding opened
presence_and_exit = refl

presence_alone : events.tick_events 9 quiet dwell_stage dark ≡ event 9 110 1 ∷ []
unfolding opened
presence_alone = refl

served : events.tick_events 9 (record quiet { served = true }) dwell_stage exit_stage ≡ []
unfolding opened
served = refl

-- another preempt takes its place: it was not the presence
interrupted : events.tick_events 9 quiet dwell_stage (record dark { preempts = only 2; is_preempted = true; tracks = only 2 }) ≡ event 9 105 2 ∷ []
unfolding opened
interrupted = refl

-- flash by the monitor
flash : events.tick_events 9 quiet dark (record dark { flashes = true }) ≡ event 9 173 6 ∷ []
unfolding opened
flash = refl

-- a reset ends it
reset : events.other_events 9 usual (record dark { flashes = true }) dark free free ≡ event 9 173 2 ∷ []
unfolding opened
reset = refl

-- a pattern is selected, and free operation again
pattern : events.other_events 9 usual dark dark free pattern_2 ≡ event 9 131 2 ∷ event 9 132 90 ∷ event 9 133 10 ∷ event 9 134 30 ∷ event 9 149 25 ∷ []
unfolding opened
pattern = refl

free_again : events.other_events 9 usual dark dark pattern_2 free ≡ event 9 131 254 ∷ event 9 132 0 ∷ event 9 133 0 ∷ event 9 134 0 ∷ event 9 149 0 ∷ []
unfolding opened
free_again = refl

-- the same pattern with other values has events of these alone
same_pattern : events.other_events 9 usual dark dark (record pattern_2 { cycle = 80; offset = 10 }) pattern_2 ≡ event 9 132 90 ∷ []
unfolding opened
same_pattern = refl

-- the local counter comes into step, and is at local zero in that tick; a coordinated phase may yield
cycle : events.tick_events 9 (record quiet { zero = true; yields = only 2 }) (record dark { cycle = cycles.Dwells }) (record dark { cycle = cycles.InStep })
    ≡ event 9 150 1 ∷ event 9 150 5 ∷ event 9 151 2 ∷ []
unfolding opened
cycle = refl

cycle_selected : events.other_events 9 usual dark (record dark { cycle = cycles.Adds }) free free ≡ event 9 150 2 ∷ []
unfolding opened
cycle_selected = refl

-- phases 1 to 16 have events, and no number beyond
sixteen_is_told : events.tick_events 9 quiet dark (record dark { greens = only 16 }) ≡ event 9 0 16 ∷ event 9 1 16 ∷ []
unfolding opened
sixteen_is_told = refl

seventeen_is_not : events.tick_events 9 quiet dark (record dark { greens = only 17 }) ≡ []
unfolding opened
seventeen_is_not = refl
