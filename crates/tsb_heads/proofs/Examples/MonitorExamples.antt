-- What the definitions give, by computing, of what trips the monitor, on plan `quad`.
use Rattle.std.specs.Prelude.{◌≡◌, Option, Some, None, refl}
use Rattle.tsb_objects.specs.tsb_types.declared.interval.Interval.TheVariants as intervals
use Rattle.tsb_objects.specs.tsb_types.declared.lamp.Aspect.TheVariants.{FlashingYellow}
use Rattle.tsb_objects.specs.tsb_types.declared.lamp.SignalColor.TheVariants as signals
use Rattle.tsb_objects.specs.tsb_types.declared.lamp.PedestrianColor.TheVariants as pedestrians
use Rattle.tsb_objects.specs.tsb_types.declared.lamp.Lamp.{Lamp}
use Rattle.tsb_objects.specs.tsb_types.declared.lamp.Lamp.TheVariants as lamps
use Rattle.tsb_objects.specs.tsb_types.Lists.{run_from}
use Rattle.tsb_objects.specs.tsb_plan.Quad.{quad}
use Rattle.tsb_heads.specs.declared.monitor.Trip.{Trip}
use Rattle.tsb_heads.specs.declared.monitor.Trip.TheVariants.{Conflict, GreenToRed}
use Rattle.tsb_heads.specs.Heads.{Shown}
use Rattle.tsb_heads.specs.Displays.{field}
use Rattle.tsb_heads.specs.Monitoring.{has_green_arrow, conflict_of, conflict, green_to_red, judge}
use Rattle.tsb_heads.proofs.Examples.Examples.{two_in, through, arrowed, lit}

-- ## The monitor: 2 and 6 are Green, and a lamp is injected

abbrev pub trip_by : Lamp → Option Trip
trip_by lamp = judge quad (field quad through None) (field quad through (Some lamp))

no_trip : judge quad (field quad through None) (field quad through None) ≡ None
unfolding quad run_from conflict conflict_of has_green_arrow green_to_red
no_trip = refl

-- 3 is concurrent with neither, and a yellow lamp gives right of way as a green one does
green_lamp : trip_by (lamps.Phase 3 signals.Green) ≡ Some (Conflict 2 3)
unfolding quad run_from conflict conflict_of has_green_arrow
green_lamp = refl

yellow_lamp : trip_by (lamps.Phase 3 signals.Yellow) ≡ Some (Conflict 2 3)
unfolding quad run_from conflict conflict_of has_green_arrow
yellow_lamp = refl

-- a pedestrian head counts whether its phase has a walk or not
walk_lamp : trip_by (lamps.Pedestrian 3 pedestrians.Walk) ≡ Some (Conflict 2 3)
unfolding quad run_from conflict conflict_of has_green_arrow
walk_lamp = refl

clearance_lamp : trip_by (lamps.Pedestrian 4 pedestrians.Clearance) ≡ Some (Conflict 2 4)
unfolding quad run_from conflict conflict_of has_green_arrow
clearance_lamp = refl

-- and the head of a phase that is not enabled
lamp_on_9 : trip_by (lamps.Phase 9 signals.Green) ≡ Some (Conflict 2 9)
unfolding quad run_from conflict conflict_of has_green_arrow
lamp_on_9 = refl

red_lamp : trip_by (lamps.Phase 2 signals.Red) ≡ Some (GreenToRed 2)
unfolding quad run_from conflict conflict_of has_green_arrow green_to_red
red_lamp = refl

-- yellow to red is no green to red
abbrev pub in_yellow : Shown
in_yellow = two_in 2 intervals.Yellow 6 intervals.Yellow

red_after_yellow : judge quad (field quad in_yellow None) (field quad in_yellow (Some (lamps.Phase 2 signals.Red))) ≡ None
unfolding quad run_from conflict conflict_of has_green_arrow green_to_red
red_after_yellow = refl

-- an overlap's lamp trips nothing, nor does one that gives no right of way
overlap_lamp : trip_by (lamps.Overlap 2 signals.Green) ≡ None
unfolding quad run_from conflict conflict_of has_green_arrow green_to_red
overlap_lamp = refl

dont_walk_lamp : trip_by (lamps.Pedestrian 3 pedestrians.DontWalk) ≡ None
unfolding quad run_from conflict conflict_of has_green_arrow green_to_red
dont_walk_lamp = refl

-- in all red a green lamp on the head of phase 9 trips nothing; a red one in its place is green to red, and none is not
abbrev pub all_red : Shown
all_red = two_in 1 intervals.Red 5 intervals.Red

abbrev pub after_lamp_on_9 : Option Lamp → Option Trip
after_lamp_on_9 lamp = judge quad (field quad all_red (Some (lamps.Phase 9 signals.Green))) (field quad all_red lamp)

red_after_green : after_lamp_on_9 (Some (lamps.Phase 9 signals.Red)) ≡ Some (GreenToRed 9)
unfolding quad run_from conflict conflict_of has_green_arrow green_to_red
red_after_green = refl

none_after_green : after_lamp_on_9 None ≡ None
unfolding quad run_from conflict conflict_of has_green_arrow green_to_red
none_after_green = refl

-- ## Arrows: of `arrowed`, whose overlap 2 has phase 1 as its turn, with 2 and 6 Green

abbrev pub trip_at_arrow : Lamp → Option Trip
trip_at_arrow lamp = judge arrowed (field arrowed through None) (field arrowed through (Some lamp))

-- its green is right of way of phase 1, which is not concurrent with 2
green_arrow : trip_at_arrow (lamps.Overlap 2 signals.Green) ≡ Some (Conflict 1 2)
unfolding arrowed quad run_from conflict conflict_of has_green_arrow
green_arrow = refl

-- its yellow may be that of phase 2, and its flashing yellow gives way
yellow_arrow : trip_at_arrow (lamps.Overlap 2 signals.Yellow) ≡ None
unfolding arrowed quad run_from conflict conflict_of green_to_red has_green_arrow
yellow_arrow = refl

flashing_arrow : trip_at_arrow (lamps.Arrow 2) ≡ None
unfolding arrowed quad run_from conflict conflict_of green_to_red has_green_arrow
flashing_arrow = refl

-- an arrow that goes from flashing to red trips nothing
red_after_flashing : judge arrowed (field arrowed (lit FlashingYellow through) None) (field arrowed through None) ≡ None
unfolding arrowed quad run_from conflict conflict_of green_to_red has_green_arrow
red_after_flashing = refl

-- the green of overlap 1, which is no arrow, is no right of way
green_overlap : trip_at_arrow (lamps.Overlap 1 signals.Green) ≡ None
unfolding arrowed quad run_from conflict conflict_of green_to_red has_green_arrow
green_overlap = refl
