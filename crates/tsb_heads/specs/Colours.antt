-- What heads show beside red and green, as tests.
use Rattle.std.specs.Prelude.{Bool, true, false}
use Rattle.tsb_objects.specs.tsb_types.declared.lamp.Aspect.{Aspect}
use Rattle.tsb_objects.specs.tsb_types.declared.lamp.Aspect.TheVariants.{Dark, Red, Yellow, Green, FlashingRed, FlashingYellow}
use Rattle.tsb_objects.specs.tsb_types.declared.lamp.PedestrianAspect.{PedestrianAspect}
use Rattle.tsb_objects.specs.tsb_types.declared.lamp.PedestrianAspect.TheVariants as pedestrian_aspects

-- the steady yellow of a yellow change; flash shows no yellow
abbrev pub is_yellow : Aspect → Bool
is_yellow Yellow = true
is_yellow Dark = false
is_yellow Red = false
is_yellow Green = false
is_yellow FlashingRed = false
is_yellow FlashingYellow = false

-- flashing red, which gives no right of way: so a head shows it that was not dark when the monitor tripped the
-- controller
abbrev pub is_flashing : Aspect → Bool
is_flashing FlashingRed = true
is_flashing Dark = false
is_flashing Red = false
is_flashing Yellow = false
is_flashing Green = false
is_flashing FlashingYellow = false

-- the flashing yellow of an arrow: it gives way to what opposes it, and is no right of way
abbrev pub is_flashing_yellow : Aspect → Bool
is_flashing_yellow FlashingYellow = true
is_flashing_yellow Dark = false
is_flashing_yellow Red = false
is_flashing_yellow Yellow = false
is_flashing_yellow Green = false
is_flashing_yellow FlashingRed = false

-- don't walk is lit; a dark pedestrian head, as in flash, does not show it
abbrev pub shows_dont_walk : PedestrianAspect → Bool
shows_dont_walk pedestrian_aspects.DontWalk = true
shows_dont_walk pedestrian_aspects.Dark = false
shows_dont_walk pedestrian_aspects.Clearance = false
shows_dont_walk pedestrian_aspects.Walk = false

-- the pedestrian clearance is lit, which is right of way as walk is
abbrev pub shows_clearance : PedestrianAspect → Bool
shows_clearance pedestrian_aspects.Clearance = true
shows_clearance pedestrian_aspects.Dark = false
shows_clearance pedestrian_aspects.DontWalk = false
shows_clearance pedestrian_aspects.Walk = false

-- walk is lit; no pedestrian head shows it in flash
abbrev pub shows_walk : PedestrianAspect → Bool
shows_walk pedestrian_aspects.Walk = true
shows_walk pedestrian_aspects.Dark = false
shows_walk pedestrian_aspects.DontWalk = false
shows_walk pedestrian_aspects.Clearance = false
