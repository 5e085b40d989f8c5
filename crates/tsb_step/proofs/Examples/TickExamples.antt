-- What a tick gives, by computing: each layer is given what was found in the same tick, and timers as the tick reads
-- them.
use Rattle.std.specs.Prelude.{◌≡◌, ℕ, ◌==◌, true, false, [], ◌∷◌, map, Some, refl}
use Rattle.tsb_cells.specs.declared.timer.Timer.TheVariants.{Off, On}
use Rattle.tsb_types.specs.declared.interval.Interval.TheVariants.{Red, Green, Yellow}
use Rattle.tsb_types.specs.declared.interval.PedestrianInterval.TheVariants.{DontWalk, Walk, PedestrianClear}
use Rattle.tsb_types.specs.Sets.{all_off}
use Rattle.tsb_objects.specs.tsb_plan.declared.object.Object.TheVariants.{VehicleDetectorCallPhase, PhaseTimeBeforeReduction, PhaseCarsBeforeReduction, VehicleDetectorFailTime}
use Rattle.tsb_objects.specs.tsb_plan.Plan.{with_values}
use Rattle.tsb_objects.specs.tsb_plan.Quad.{quad}
use Rattle.tsb_detect.specs.Detector as detector
use Rattle.tsb_detect.specs.declared.alarm.Alarm.TheVariants.{Erratic}
use Rattle.tsb_phase.specs.Phase as phase
use Rattle.tsb_ring.specs.Rings.{Ring1, Ring2}
use Rattle.tsb_transact.specs.Desk.{closed}
use Rattle.tsb_transact.specs.declared.desk_state.DeskState.TheVariants.{Transaction}
use Rattle.tsb_step.specs.State.{State, start, interval, pedestrian_part}
use Rattle.tsb_step.specs.Signs.{local}
use Rattle.tsb_step.specs.Tick.{at_force_off}
use Rattle.tsb_step.proofs.Examples.Scenes.{opened, after, vehicle, button, preempt, green, clearing, these, all_red, called, intervals, red, resting, short, walking, at_barrier, entering, coordinated, recycling, hurrying}

-- ## From power-up

-- phases 2 and 6, which are recalled, start in the first tick
starts : intervals (after (start quad) all_off) ≡ Red ∷ Green ∷ Red ∷ Red ∷ Red ∷ Green ∷ Red ∷ Red ∷ []
unfolding opened
starts = refl

-- ## Detectors

-- detector 1, which calls phase 2, has failed, and has a fail time of 60 ticks
abbrev pub failed : State → State
failed s = record s {
  plan = with_values quad ((VehicleDetectorCallPhase, 1, 2) ∷ (VehicleDetectorFailTime, 1, 6) ∷ []);
  detectors = λ d. record detector.at_power_up { output = true; alarm = Some Erratic };
}

-- the green timer is as the tick reads it: one of 59 ticks is one of 60
abbrev pub a_tick_earlier : State
a_tick_earlier = record resting { phases = these (2 ∷ []) (green 58) all_red }

fails_on : ((after (failed a_tick_earlier) all_off).detectors 1).output ≡ true
unfolding opened
fails_on = refl

fails_off : ((after (failed resting) all_off).detectors 1).output ≡ false
unfolding opened
fails_off = refl

-- a phase that was not Green has no green timer, however long it clears
abbrev pub in_red : State
in_red = record red { phases = these (2 ∷ []) (clearing 99) all_red }

fails_on_in_red : ((after (failed in_red) all_off).detectors 1).output ≡ true
unfolding opened
fails_on_in_red = refl

-- a whole minute is one of this tick's number
abbrev pub at_599 : State
at_599 = record red { now = 599; detectors = λ d. record detector.at_power_up { rises = 5 } }

counts_anew : ((after at_599 all_off).detectors 1).rises ≡ 0
unfolding opened
counts_anew = refl

-- ## Calls

-- an output that is on in this tick sets memory, counts, and calls: both greens end for it
arrives : intervals (after resting (vehicle 3)) ≡ Red ∷ Yellow ∷ Red ∷ Red ∷ Red ∷ Yellow ∷ Red ∷ Red ∷ []
unfolding opened
arrives = refl

-- the crossing commits ring 1 to it, and ring 2 to 8, which enters beside it
commits : map (after resting (vehicle 3)).rings.commitment (Ring1 ∷ Ring2 ∷ []) ≡ Some 3 ∷ Some 8 ∷ []
unfolding opened
commits = refl

is_remembered : (after resting (vehicle 3)).memories.vehicle 3 ≡ true
unfolding opened
is_remembered = refl

is_counted : (after resting (vehicle 3)).memories.count 3 ≡ 1
unfolding opened
is_counted = refl

-- it makes a conflict in the same tick, and as a car that waits it begins the reduction
abbrev pub reducing : State
reducing = record short {
  plan = with_values quad ((PhaseTimeBeforeReduction, 2, 5) ∷ (PhaseCarsBeforeReduction, 2, 1) ∷ []);
}

has_conflict : ((after reducing (vehicle 3)).phases 2).conflict ≡ On 0
unfolding opened
has_conflict = refl

reduces : ((after reducing (vehicle 3)).phases 2).reduction ≡ On 0
unfolding opened
reduces = refl

-- a button that is pressed in the tick of the start gives a walk at once, and its memory falls
walks : pedestrian_part (after entering (button 2)) 2 ≡ Walk
unfolding opened
walks = refl

is_served : (after entering (button 2)).memories.pedestrian 2 ≡ false
unfolding opened
is_served = refl

-- in a green it is remembered
waits : (after resting (button 2)).memories.pedestrian 2 ≡ true
unfolding opened
waits = refl

-- in a walk it is not
waits_not : (after walking (button 2)).memories.pedestrian 2 ≡ false
unfolding opened
waits_not = refl

-- ## Pedestrian recycle

-- a button that is pressed in a green of 2 gives a walk in the same tick, up to the one at 660: then 100 ticks are left
walks_again : map (λ n. pedestrian_part (after (recycling n) (button 2)) 2) (99 ∷ 659 ∷ 660 ∷ []) ≡ Walk ∷ Walk ∷ DontWalk ∷ []
unfolding opened
walks_again = refl

-- its memory falls with the walk, and stays where none begins
falls_with_walk : map (λ n. (after (recycling n) (button 2)).memories.pedestrian 2) (99 ∷ 659 ∷ 660 ∷ []) ≡ false ∷ false ∷ true ∷ []
unfolding opened
falls_with_walk = refl

-- the same with a memory of an earlier tick, as of a button that was pressed in the clearance
abbrev pub remembering : ℕ → State
remembering n = record (recycling n) { memories = record (called (3 ∷ [])) { pedestrian = λ p. p == 2 } }

serves_memory : map (λ n. pedestrian_part (after (remembering n) all_off) 2) (99 ∷ 660 ∷ []) ≡ Walk ∷ DontWalk ∷ []
unfolding opened
serves_memory = refl

memory_falls : map (λ n. (after (remembering n) all_off).memories.pedestrian 2) (99 ∷ 660 ∷ []) ≡ false ∷ true ∷ []
unfolding opened
memory_falls = refl

-- its timer begins with it, and the green goes on
begins_anew : ((after (recycling 99) (button 2)).phases 2).pedestrian_timer ≡ On 0
unfolding opened
begins_anew = refl

goes_on : ((after (recycling 99) (button 2)).phases 2).timer ≡ On 60
unfolding opened
goes_on = refl

-- none begins without a call, with a preempt in service, or without the object
none_begins : map (λ s. pedestrian_part s 2)
    (after (recycling 99) all_off ∷ after (remembering 99) (preempt 1) ∷ after (coordinated 99) (button 2) ∷ [])
    ≡ DontWalk ∷ DontWalk ∷ DontWalk ∷ []
unfolding opened
none_begins = refl

-- nor within a clearance, also where there is time: the button is remembered
abbrev pub clearing_2 : State
clearing_2 = record (recycling 99) {
  phases = these (2 ∷ []) (record (green 59) { pedestrian = PedestrianClear; pedestrian_timer = On 9 }) all_red;
}

clears_on : pedestrian_part (after clearing_2 (button 2)) 2 ≡ PedestrianClear
unfolding opened
clears_on = refl

is_kept : (after clearing_2 (button 2)).memories.pedestrian 2 ≡ true
unfolding opened
is_kept = refl

-- nor once it was forced off, for a conflict that still waits: at 761 there is time to the next instant
abbrev pub held_back : State
held_back = record (remembering 760) { phases = these (2 ∷ 6 ∷ []) (record (green 19) { forced = true }) all_red }

stays_forced : pedestrian_part (after held_back all_off) 2 ≡ DontWalk
unfolding opened
stays_forced = refl

-- nor while the local counter comes into step, as it does from tick 89 on, and before a tick in which it is: the first
-- such tick is 99
no_walk_meanwhile : map (λ n. pedestrian_part (after (hurrying 89 (recycling n)) (button 2)) 2) (89 ∷ 98 ∷ 99 ∷ []) ≡ DontWalk ∷ DontWalk ∷ Walk ∷ []
unfolding opened
no_walk_meanwhile = refl

-- ## A local counter that takes two steps

-- it goes from 759 to 761 in tick 770, and to 763 in the next
takes_two_steps : map (λ n. local (hurrying 769 (coordinated n))) (769 ∷ 770 ∷ 771 ∷ []) ≡ Some 759 ∷ Some 761 ∷ Some 763 ∷ []
unfolding opened
takes_two_steps = refl

-- the first of two steps is at the instant of 2, and forces it off in that tick
comes_to_760 : map (λ n. at_force_off (hurrying 769 (coordinated n)) 2) (769 ∷ 770 ∷ []) ≡ true ∷ false ∷ []
unfolding opened
comes_to_760 = refl

ends_on_its_way : map (λ n. interval (after (hurrying 769 (coordinated n)) all_off) 2) (769 ∷ 770 ∷ []) ≡ Yellow ∷ Green ∷ []
unfolding opened
ends_on_its_way = refl

-- a tick leaves how it comes into step
keeps_correction : (after (hurrying 769 (coordinated 769)) all_off).correction ≡ record { since = 769; ahead = 790; midnight = 0 }
unfolding opened
keeps_correction = refl

-- ## Phase timing

-- a green of 49 ticks is read as one of 50, and may end; one of 48 may not
abbrev pub green_for : ℕ → State
green_for n = record red { memories = called (3 ∷ []); phases = these (2 ∷ 6 ∷ []) (green n) all_red }

ends : map (λ n. interval (after (green_for n) all_off) 2) (48 ∷ 49 ∷ []) ≡ Green ∷ Yellow ∷ []
unfolding opened
ends = refl

-- it ends gapped out, though its passage timer reaches the gap only in this tick, and so it sets no memory
abbrev pub gapping : State
gapping = record (green_for 59) { phases = these (2 ∷ 6 ∷ []) (record (green 59) { passage = On 19 }) all_red }

is_gapped : map (after gapping all_off).memories.vehicle (2 ∷ 3 ∷ []) ≡ false ∷ true ∷ []
unfolding opened
is_gapped = refl

-- an output that is on in this tick stops the passage timer
passes : ((after resting (vehicle 2)).phases 2).passage ≡ Off
unfolding opened
passes = refl

-- a timer runs on by one
runs_on : ((after resting all_off).phases 2).timer ≡ On 60
unfolding opened
runs_on = refl

-- red clearances of 9 ticks are over as 10: the crossing is completed, memory falls, and the sides change
crosses : intervals (after at_barrier all_off) ≡ Red ∷ Red ∷ Green ∷ Red ∷ Red ∷ Red ∷ Red ∷ Green ∷ []
unfolding opened
crosses = refl

falls : (after at_barrier all_off).memories.vehicle 3 ≡ false
unfolding opened
falls = refl

changes_side : (after at_barrier all_off).rings.side ≡ 2
unfolding opened
changes_side = refl

-- a red revert of 20 ticks has passed at 20
abbrev pub reverting : ℕ → State
reverting n = record red { phases = these (2 ∷ []) (record phase.at_power_up { red_revert = On n }) all_red }

reverts : map (λ n. interval (after (reverting n) all_off) 2) (18 ∷ 19 ∷ []) ≡ Red ∷ Green ∷ []
unfolding opened
reverts = refl

-- ## The rest

-- the tick number is one greater
counts_on : (after resting all_off).now ≡ 61
unfolding opened
counts_on = refl

-- desk and pattern are as they were
abbrev pub edited : State
edited = record (coordinated 60) { desk = record closed { owner = Some 1; state = Transaction } }

keeps_desk : (after edited all_off).desk ≡ edited.desk
unfolding opened
keeps_desk = refl

keeps_pattern : (after edited all_off).pattern ≡ Some 1
unfolding opened
keeps_pattern = refl
