-- What the controller shows and what trips it, by computing.
use Rattle.std.specs.Prelude.{◌≡◌, ℕ, [], ◌∷◌, map, Option, Some, None, refl}
use Rattle.tsb_types.specs.declared.lamp.Aspect.TheVariants.{Dark, Red, Green, FlashingRed}
use Rattle.tsb_types.specs.declared.lamp.Lamp.{Lamp}
use Rattle.tsb_types.specs.declared.lamp.Lamp.TheVariants as lamps
use Rattle.tsb_types.specs.declared.lamp.PedestrianAspect.TheVariants as pedestrian_aspects
use Rattle.tsb_types.specs.declared.lamp.SignalColor.TheVariants as signals
use Rattle.tsb_types.specs.declared.stage.Stage.TheVariants.{Dwell}
use Rattle.tsb_types.specs.Sets.{all_off}
use Rattle.tsb_heads.specs.declared.monitor.Trip.TheVariants.{Conflict, GreenToRed}
use Rattle.tsb_step.specs.declared.inputs.Input.TheVariants.{Fault}
use Rattle.tsb_step.specs.State.{State}
use Rattle.tsb_step.specs.Signs.{display, local, stage}
use Rattle.tsb_step.specs.Step.{step}
use Rattle.tsb_step.proofs.Examples.Scenes.{opened, after, vehicle, red, resting, walking, at_barrier, entering, dwelling, coordinated}

abbrev pub green_lamp : ℕ → Option Lamp
green_lamp p = Some (lamps.Phase p signals.Green)

abbrev pub red_lamp : ℕ → Option Lamp
red_lamp p = Some (lamps.Phase p signals.Red)

-- ## The monitor

-- a green lamp on 3 beside 2 and 6 Green: the least pair, at the tick number in force
conflicts : (step resting (Fault (green_lamp 3))).trip ≡ Some (record { cause = Conflict 2 3; tick = 60 })
unfolding opened
conflicts = refl

-- a red lamp on 2 takes the head from green to red, and so does the end of a green lamp on a red head
goes_red : (step resting (Fault (red_lamp 2))).trip ≡ Some (record { cause = GreenToRed 2; tick = 60 })
unfolding opened
goes_red = refl

goes_out : (step (record red { lamp = green_lamp 4 }) (Fault None)).trip ≡ Some (record { cause = GreenToRed 4; tick = 60 })
unfolding opened
goes_out = refl

-- a lamp on a red head gives no conflict until another phase starts: then at the number of that tick
is_no_conflict : (step at_barrier (Fault (green_lamp 4))).trip ≡ None
unfolding opened
is_no_conflict = refl

starts_in_conflict : (after (record at_barrier { lamp = green_lamp 4 }) all_off).trip
    ≡ Some (record { cause = Conflict 3 4; tick = 61 })
unfolding opened
starts_in_conflict = refl

-- ## Tripped

abbrev pub tripped : State
tripped = record resting { trip = Some (record { cause = GreenToRed 4; tick = 50 }) }

-- a controller that has tripped takes another lamp, but is not judged again
takes_lamp : (step tripped (Fault (green_lamp 3))).lamp ≡ green_lamp 3
unfolding opened
takes_lamp = refl

is_not_judged : (step tripped (Fault (green_lamp 3))).trip ≡ tripped.trip
unfolding opened
is_not_judged = refl

-- and a tick changes its tick number alone
counts_on : after tripped (vehicle 3) ≡ record tripped { now = 61 }
unfolding opened
counts_on = refl

flashes : map (display tripped).vehicle (1 ∷ 2 ∷ 9 ∷ []) ≡ FlashingRed ∷ FlashingRed ∷ Dark ∷ []
unfolding opened
flashes = refl

-- ## The display

-- it has no lamp laid over it
is_its_own : map (display (record resting { lamp = green_lamp 3 })).vehicle (2 ∷ 3 ∷ []) ≡ Green ∷ Red ∷ []
unfolding opened
is_its_own = refl

walks : map (display walking).pedestrian (1 ∷ 2 ∷ []) ≡ pedestrian_aspects.Dark ∷ pedestrian_aspects.Walk ∷ []
unfolding opened
walks = refl

-- overlap 1 includes 1 and 2: it stays green while ring 1, in whose red clearance 1 is, is committed to 2
follows : (display entering).overlap 1 ≡ Green
unfolding opened
follows = refl

-- the local counter is that of the tick number in force
is_local : map (λ n. local (coordinated n)) (759 ∷ 800 ∷ []) ≡ Some 759 ∷ Some 0 ∷ []
unfolding opened
is_local = refl

is_free : local resting ≡ None
is_free = refl

is_in_dwell : stage (dwelling 5) ≡ Some (1, Dwell)
is_in_dwell = refl
