-- The events of inputs, by computing, worked by hand from the plan of eight phases. Its overlap 1 includes phases 1 and 2.
use Rattle.std.specs.Prelude.{◌≡◌, ℕ, ◌==◌, true, false, [], ◌∷◌, Some, is_some, refl}
use Rattle.tsb_cells.specs.declared.timer.Timer.TheVariants.{On}
use Rattle.tsb_types.specs.Events.{event}
use Rattle.tsb_types.specs.declared.interval.Interval.TheVariants.{RedClear, Yellow}
use Rattle.tsb_types.specs.Sets.{all_off}
use Rattle.tsb_objects.specs.tsb_plan.Quad.{quad}
use Rattle.tsb_heads.specs.declared.monitor.Trip.TheVariants.{GreenToRed}
use Rattle.tsb_phase.specs.Causes.{cause}
use Rattle.tsb_step.specs.declared.inputs.Input.TheVariants.{Tick, Pattern, Switch}
use Rattle.tsb_step.specs.EventLaws.{EndsNoTime}
use Rattle.tsb_step.specs.declared.log_form.Noted.{Noted}
use Rattle.tsb_step.specs.Events.{ends_freely, events_of, selected, usual_after, view}
use Rattle.tsb_step.specs.Quiet.{IsQuiet}
use Rattle.tsb_step.specs.State.{State, interval, start}
use Rattle.tsb_step.specs.Step.{step}
use Rattle.tsb_step.specs.Tick.{phases_given, phase_read}
use Rattle.tsb_ring.proofs.Examples.Scenes.{both}
use Rattle.tsb_step.proofs.Examples.Scenes as scenes
use Rattle.tsb_step.proofs.Examples.Scenes.{after, all_red, button, called, clearing, green, preempt, red, resting, short, these, vehicle}

-- a log of the usual form, with no input on in the newest tick
abbrev pub usual : Noted
usual = usual_after all_off

-- one that has recalls, and one that has outputs
abbrev pub with_recalls : Noted
with_recalls = record { form = record { recalls = true; outputs = false }; row = all_off }

abbrev pub with_outputs : Noted
with_outputs = record { form = record { recalls = false; outputs = true }; row = all_off }

-- what a computed line opens
unfoldable pub opened : Unit {0}
unfolding scenes.opened events_of selected view
opened = scenes.opened

-- from power-up phases 2 and 6 start, as they are recalled, and overlap 1 turns green
power_up : events_of usual (start quad) (Tick all_off) ≡
    event 1 0 2 ∷ event 1 0 6 ∷ event 1 1 2 ∷ event 1 1 6 ∷ event 1 61 1 ∷ []
unfolding opened
power_up = refl

-- a log with recalls has that their calls go
power_up_with_recalls : events_of with_recalls (start quad) (Tick all_off) ≡
    event 1 0 2 ∷ event 1 0 6 ∷ event 1 1 2 ∷ event 1 1 6 ∷ event 1 44 2 ∷ event 1 44 6 ∷ event 1 61 1 ∷ []
unfolding opened
power_up_with_recalls = refl

-- a vehicle for phase 3 ends the greens of 2 and 6 by their gaps
arrives : events_of usual resting (Tick (vehicle 3)) ≡
    event 61 4 2 ∷ event 61 4 6 ∷ event 61 7 2 ∷ event 61 7 6 ∷ event 61 8 2 ∷ event 61 8 6 ∷ event 61 43 3
    ∷ event 61 63 1 ∷ event 61 82 3 ∷ []
unfolding opened
arrives = refl

-- recalled, these have calls as soon as they are not Green, which a log with recalls has
arrives_with_recalls : events_of with_recalls resting (Tick (vehicle 3)) ≡
    event 61 4 2 ∷ event 61 4 6 ∷ event 61 7 2 ∷ event 61 7 6 ∷ event 61 8 2 ∷ event 61 8 6 ∷ event 61 43 2 ∷ event 61 43 3
    ∷ event 61 43 6 ∷ event 61 63 1 ∷ event 61 82 3 ∷ []
unfolding opened
arrives_with_recalls = refl

-- where their greens are too short to end, a conflict begins
too_short : events_of usual short (Tick (vehicle 3)) ≡ event 61 2 2 ∷ event 61 2 6 ∷ event 61 43 3 ∷ event 61 82 3 ∷ []
unfolding opened
too_short = refl

-- by its output detector 3 was on before, whatever its input was
on_before : events_of with_outputs (after short (vehicle 3)) (Tick (vehicle 3)) ≡ []
unfolding opened
on_before = refl

-- a tick in which nothing changes has no event, and the same row again has none of an input
quiet : events_of usual resting (Tick all_off) ≡ []
unfolding opened
quiet = refl

-- it is a quiet one, in which phase 3 keeps its call
abbrev standing : State
standing = record short { memories = called (3 ∷ []); phases = these (2 ∷ 6 ∷ []) (record (green 9) { conflict = On 5 }) all_red }

quiet_too : events_of usual standing (Tick all_off) ≡ []
unfolding opened
quiet_too = refl

stands : (view (after standing all_off)).vehicle_calls 3 ≡ true
unfolding opened
stands = refl

-- so is each tick of a controller that has tripped, which changes the tick number alone
abbrev tripped : State
tripped = record resting { trip = Some (record { cause = GreenToRed 4; tick = 50 }) }

is_quiet : IsQuiet tripped (after tripped all_off)
unfolding opened
is_quiet = refl

quiet_as_it_flashes : events_of usual tripped (Tick all_off) ≡ []
unfolding opened
quiet_as_it_flashes = refl

no_time_ends : EndsNoTime tripped
no_time_ends = record { minimum = λ p from to. refl; red = λ p from to. refl; cycle = refl; zero = refl; yields = λ p from to. refl }

-- a green of 50 ticks completes its minimum, and rests
abbrev completing : State
completing = record red { phases = these (2 ∷ 6 ∷ []) (green 49) all_red }

completed : events_of usual completing (Tick all_off) ≡ event 61 3 2 ∷ event 61 3 6 ∷ []
unfolding opened
completed = refl

-- it may also end in that tick, by its gap
completed_and_ended : events_of usual (record completing { memories = called (3 ∷ []) }) (Tick all_off) ≡
    event 61 3 2 ∷ event 61 3 6 ∷ event 61 4 2 ∷ event 61 4 6 ∷ event 61 7 2 ∷ event 61 7 6 ∷ event 61 8 2 ∷ event 61 8 6
    ∷ event 61 63 1 ∷ []
unfolding opened
completed_and_ended = refl

-- 2 has been in red clearance for 9 ticks, which lasts 10, and waits for 6, which is Yellow: its time ends, and nothing
-- else changes
abbrev waiting : State
waiting = record red {
  phases = these (2 ∷ []) (clearing 9) (these (6 ∷ []) (record (clearing 3) { interval = Yellow }) all_red);
  rings = record { last = both (Some 2) (Some 6); commitment = both (Some 3) (Some 8); side = 1; crossing = Some 2 };
}

told_as_it_waits : events_of usual waiting (Tick all_off) ≡ event 61 11 2 ∷ []
unfolding opened
told_as_it_waits = refl

waits_on : interval (after waiting all_off) 2 ≡ RedClear
unfolding opened
waits_on = refl

-- and no more in the tick after it
told_once : events_of usual (after waiting all_off) (Tick all_off) ≡ []
unfolding opened
told_once = refl

-- pattern 1 is selected: a cycle of 80 seconds, no offset, and eight splits
pattern : events_of usual resting (Pattern 1) ≡
    event 60 131 1 ∷ event 60 132 80 ∷ event 60 134 15 ∷ event 60 135 25 ∷ event 60 136 15 ∷ event 60 137 25 ∷ event 60 138 15
    ∷ event 60 139 25 ∷ event 60 140 15 ∷ event 60 141 25 ∷ event 60 150 1 ∷ []
unfolding opened
pattern = refl

-- ## Requests of preempts

-- the operator's switch of preempt 1 asks for it as its input does
switched : events_of usual resting (Switch 1 true) ≡ event 60 102 1 ∷ []
unfolding opened
switched = refl

-- its input in the next tick asks for nothing new, and preempt 1 enters service
asked_twice : events_of usual (step resting (Switch 1 true)) (Tick (preempt 1)) ≡
    event 61 7 2 ∷ event 61 7 6 ∷ event 61 8 2 ∷ event 61 8 6 ∷ event 61 63 1 ∷ event 61 105 1 ∷ []
unfolding opened
asked_twice = refl

-- ## A walk within a green

-- with pedestrian recycle a button in the green of 2 begins a walk in the same tick, so that no call comes
abbrev recycling : ℕ → State
recycling n = record (scenes.recycling n) { memories = called [] }

walks_again : events_of usual (recycling 99) (Tick (button 2)) ≡ event 100 21 2 ∷ event 100 90 2 ∷ []
unfolding opened
walks_again = refl

-- where no time is left for a walk the call comes
comes : events_of usual (recycling 660) (Tick (button 2)) ≡ event 661 45 2 ∷ event 661 90 2 ∷ []
unfolding opened
comes = refl

-- one that stood is served
serves : events_of usual (record (recycling 99) { memories = record (called []) { pedestrian = λ p. p == 2 } }) (Tick all_off)
    ≡ event 100 21 2 ∷ []
unfolding opened
serves = refl

-- ## Causes

ends_freely_2 : ends_freely resting (vehicle 3) (after resting (vehicle 3)) 2 ≡ true
unfolding opened
ends_freely_2 = refl

stays : ends_freely resting all_off (after resting all_off) 2 ≡ false
unfolding opened
stays = refl

-- preempt 1 wants 3 and 8: it ends 2, whose gap has expired as well
is_preempted : ends_freely resting (preempt 1) (after resting (preempt 1)) 2 ≡ false
unfolding opened
is_preempted = refl

would_be_told : is_some (cause quad (phases_given resting (preempt 1)) 2 (phase_read resting 2)) ≡ true
unfolding opened
would_be_told = refl
